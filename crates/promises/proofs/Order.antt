-- Of two numbers that are no NaN, one that is not below the other is at or above it.
-- Assumes nothing.
use mathlib.Core.Path.{◌≡◌}
use mathlib.Core.Bool.{Bool, true, false, not, ◌&&◌, ◌||◌, true≢false}
use mathlib.Core.Logic.{inl, inr}
use Prim.Native.Nat.{ℕ, ◌+◌, ◌*◌}
use native.Mathlib.Nat.{eq-zero-or-pos, eq-or-lt_of_le, le_refl}
use native.Mathlib.Omega.{arith}
use lib.Dec.{T, eqb, ltb, lt→ltb}
use lib.Ieee.{Float, nan, inf, fin, up, down, below, level, lt, le, is_nan}
use borrow.Author.Tests.{ltb-false}
use Rattle.rounding.proofs.Sizes.{le-i, or_l}

signed : (s : Bool) (a : ℕ) (t : Bool) (b : ℕ) → below s a t b ≡ false → T (below t b s a || level t b s a)
signed false a false b h = le-i false b false a (λ t. absurd t) (λ t. absurd t) (ltb-false a b h)
signed false a true b h = elim (eq-zero-or-pos (b + a)) [
  | inl z ↦ le-i true b false a (λ t. omega arith) (λ t. absurd t) (omega arith)
  | inr l ↦ or_l (ltb 0 (b + a)) (eqb b a && eqb b 0) (lt→ltb 0 (b + a) l)
]
signed true a false b h =
    let z = ltb-false 0 (a + b) h in
    le-i false b true a (λ t. absurd t) (λ t. omega arith) (omega arith)
signed true a true b h = elim (eq-or-lt_of_le (ltb-false b a h)) [
  | inl e ↦ rw e (le-i false b false b (λ t. absurd t) (λ t. absurd t) (le_refl b))
  | inr l ↦ or_l (ltb a b) (eqb b a && true) (lt→ltb a b l)
]

pub not-below : (x y : Float) → T (not (is_nan x)) → T (not (is_nan y)) → lt x y ≡ false → T (le y x)
unfolding lt le is_nan
not-below nan y p q h = absurd p
not-below (inf s) nan p q h = absurd q
not-below (inf true) (inf true) p q h = tt
not-below (inf true) (inf false) p q h = absurd (true≢false h)
not-below (inf false) (inf true) p q h = tt
not-below (inf false) (inf false) p q h = tt
not-below (inf true) (fin t n d) p q h = absurd (true≢false h)
not-below (inf false) (fin t n d) p q h = tt
not-below (fin s m e) nan p q h = absurd q
not-below (fin s m e) (inf true) p q h = tt
not-below (fin s m e) (inf false) p q h = absurd (true≢false h)
not-below (fin s m e) (fin t n d) p q h = signed s (m * up e * down d) t (n * up d * down e) h
