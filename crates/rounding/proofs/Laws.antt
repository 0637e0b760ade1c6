-- The rounding laws, once for any format. A size is counted in units of the format's smallest value, of which 1.0 has `U f`; a number of at most prec digits and then zeros is one that the format keeps (`Rep`).
-- Assumes nothing.
use mathlib.Core.Path.{◌≡◌}
use Prim.Native.Nat.{ℕ, ◌+◌, ◌*◌, ◌^◌, ◌≤◌, ◌<◌}
use mathlib.Core.Bool.{Bool, false}
use lib.IntN.{ℤ}
use lib.Dec.{T}
use lib.Ieee.{Float, fin, Format, prec, up, down, round, fits, le}
use lib.Ieee.Exact.{HasValue}
use lib.Ieee.Order as Order
use lib.Ieee.Scale.{round_same, overflow}
use Rattle.rounding.specs.Fma.{fma}
use Rattle.rounding.proofs.Snap.{snap, Rep, snap-err}
use Rattle.rounding.proofs.Units.{U, round-at, round-own}
use Rattle.rounding.proofs.Sizes as Sizes
use Rattle.rounding.proofs.Sizes.{At}

module _ (f : Format) where
  -- it depends on the fraction alone
  pub fraction_alone : (s : Bool) (a b c d : ℕ) → 0 < b → 0 < d → a * d ≡ c * b → round f s a b ≡ round f s c d
  fraction_alone s a b c d B D e = round_same f s a b c d B D e

  -- it keeps what fits
  pub keeps_what_fits : (s : Bool) (m : ℕ) (e : ℤ) → T (fits f (fin s m e)) → round f s (m * up e) (down e) ≡ fin s m e
  keeps_what_fits s m e h = round-own f s m e h

  -- it keeps order
  pub keeps_order : (a b c d : ℕ) → 0 < b → 0 < d → a * d ≤ c * b → T (le (round f false a b) (round f false c d))
  keeps_order a b c d B D h = Order.round_mono f a b c d B D h

  -- it is off by half a step at most: the fraction n / d of units lies below 2 ^ (prec + j), where a step is 2 ^ j
  pub record HalfStep (s : Bool) (a c n d j : ℕ) : Type 0 where
    pub kept : ℕ
    pub is : HasValue (round f s a c) s kept (U f)
    pub not-above : kept * d * 2 ≤ n * 2 + d * 2 ^ j
    pub not-below : n * 2 ≤ kept * d * 2 + d * 2 ^ j

  pub half-a-step : (s : Bool) (a c n d j : ℕ) → 0 < c → 0 < d → a * U f * d ≡ n * c → snap (prec f) n d < overflow f → n < 2 ^ (prec f + j) * d → HalfStep s a c n d j
  half-a-step s a c n d j C D e o h =
      let near = snap-err (prec f) n d j D h in
      record { kept = snap (prec f) n d; is = round-at f s a c n d C D e o; not-above = near.0; not-below = near.1 }

  -- ---- `fma` of x, y, z that are not below zero, of a, b and c units
  pub record FmaLaws (x y z : Float) (a b c : ℕ) : Type 0 where
    -- it lies between bounds that the format keeps
    pub at_most : (w : Float) (n : ℕ) → At f w n → Rep (prec f) n → n < overflow f → a * b + c * U f ≤ n * U f → T (le (fma f x y z) w)
    pub at_least : (w : Float) (n : ℕ) → At f w n → Rep (prec f) n → snap (prec f) (a * b + c * U f) (U f) < overflow f → n * U f ≤ a * b + c * U f → T (le w (fma f x y z))
    -- it grows with each of the three
    pub grows : (x' y' z' : Float) (a' b' c' : ℕ) → At f x' a' → At f y' b' → At f z' c' → snap (prec f) (a' * b' + c' * U f) (U f) < overflow f → a ≤ a' → b ≤ b' → c ≤ c' → T (le (fma f x y z) (fma f x' y' z'))

  pub fma-laws : (x y z : Float) (a b c : ℕ) → At f x a → At f y b → At f z c → FmaLaws x y z a b c
  fma-laws x y z a b c hx hy hz = record {
    at_most = λ w n. Sizes.fma-le f x y z w a b c n hx hy hz;
    at_least = λ w n. Sizes.fma-ge f x y z w a b c n hx hy hz;
    grows = λ x' y' z' a' b' c' hx' hy' hz'. Sizes.fma-mono f x x' y y' z z' a a' b b' c c' hx hx' hy hy' hz hz';
  }
