-- Gains by division, for either format: 1 / x is above 0 and at most 1 for an x from 1 up, rounding included, and the product of two such x is another.
-- Assumes nothing.
use mathlib.Core.Path.{refl, subst}
use Prim.Native.Nat.{ℕ, suc, ◌+◌, ◌*◌, ◌≤◌, ◌<◌}
use native.Mathlib.Nat.{le_trans, le_of_eq, le_of_lt, lt_of_lt_of_le, lt_of_le_of_lt, one-mul, mul-le-mul}
use native.Mathlib.Omega.{arith}
use mathlib.Core.Bool.{true, false, true≢false}
use lib.Dec.{T}
use lib.Pow.{pow-add, pow_pos, pow_mono}
use lib.Ieee.{Float, nan, inf, fin, Format, binary32, binary64, prec, emax, low, fits, le, mul, div}
use lib.Ieee.Positive.{positive, positive_of_value, value_pos}
use lib.Ieee.Scale.{overflow}
use Rattle.rounding.proofs.Snap.{snap, Rep, snap-below, snap-above, snap-is-rep, rep-pow}
use Rattle.rounding.proofs.Units.{gap, U, U-is, prec-pos}
use Rattle.rounding.proofs.Sizes.{At, at→value, sizes-of-le, mul_at}
use Rattle.rounding.proofs.Smoothing.{one, one_known, unit-fine, known, In, inverse-at, inverse-in}

-- ---- x is finite, above zero and held by f, and has a units
pub record Above (f : Format) (x : Float) (a : ℕ) : Type 0 where
  pub at : At f x a
  pub some : 0 < a
  pub rep : Rep (prec f) a
  pub under : a < overflow f

pub above : (f : Format) (x : Float) → T (fits f x) → T (positive x) → (a : ℕ) × Above f x a
above f nan h p = absurd p
above f (inf s) h p = absurd p
above f (fin true m e) h p = absurd p
above f (fin false m e) h p =
    let k = known f (fin false m e) h tt in
    (k.at, record { at = (tt, k.is); some = value_pos (fin false m e) k.at (U f) p (pow_pos (prec f + gap f)) (refl, k.is); rep = k.rep; under = k.under })

pub one-above : (f : Format) → Above f one (U f)
one-above f = record { at = one_known f; some = pow_pos (prec f + gap f); rep = rep-pow (prec f) (prec f + gap f) (prec-pos f); under = unit-fine f (U f) (omega arith) }

pub at-positive : (f : Format) (x : Float) (a : ℕ) → At f x a → 0 < a → T (positive x)
at-positive f x a h p = positive_of_value x a (U f) (at→value f x a h p) p

-- ---- and is 1 or more
pub record FromOne (f : Format) (x : Float) (a : ℕ) : Type 0 where
  pub above : Above f x a
  pub least : U f ≤ a

pub from_one : (f : Format) (x : Float) → T (fits f x) → T (positive x) → T (le one x) → (a : ℕ) × FromOne f x a
from_one f x h p l = let a = above f x h p in (a.0, record { above = a.1; least = sizes-of-le f one x (U f) a.0 tt a.1.at.0 (one_known f).1 a.1.at.1 l })

-- x * y, where f holds some m that is no less
pub product : (f : Format) (x y : Float) (a b m : ℕ) → FromOne f x a → FromOne f y b → Rep (prec f) m → m < overflow f → a * b ≤ m * U f → FromOne f (mul f x y) (snap (prec f) (a * b) (U f))
product f x y a b m hx hy rep o h =
    let n = snap (prec f) (a * b) (U f) in
    let u : 0 < U f = (one-above f).some in
    let under : n < overflow f = lt_of_le_of_lt (snap-below (prec f) m (a * b) (U f) (prec-pos f) rep u h) o in
    let least : U f ≤ n = snap-above (prec f) (U f) (a * b) (U f) (prec-pos f) (one-above f).rep u (mul-le-mul hx.least hy.least) in
    record { above = record { at = mul_at f x y a b hx.above.at hy.above.at under; some = lt_of_lt_of_le u least; rep = snap-is-rep (prec f) (a * b) (U f) (prec-pos f); under = under }; least = least }

-- ---- g is held by f, above 0 and at most 1
pub record Gain (f : Format) (g : Float) : Type 0 where
  pub within : In f one g
  pub some : T (positive g)

-- what f holds lies below the square of 1.0's units, so that 1 / x is never rounded to 0
U-square : (f : Format) → overflow f ≤ U f * U f
U-square f = subst (λ (z : ℕ). overflow f ≤ z * z) (U-is f) (le_trans (pow_mono {i = low f + suc (emax f)} {j = low f + low f} (room f)) (le_of_eq (pow-add 2 (low f) (low f))))
  where
    room : (f : Format) → low f + suc (emax f) ≤ low f + low f
    room binary32 = omega arith
    room binary64 = omega arith

-- 1 / x
pub inverse : (f : Format) (x : Float) (a : ℕ) → FromOne f x a → Gain f (div f one x)
inverse f nan a h = absurd h.above.at.0
inverse f (inf t) a h = absurd h.above.at.0
inverse f (fin true n d) a h = absurd (true≢false (at→value f (fin true n d) a h.above.at h.above.some).0)
inverse f (fin false n d) a h =
    let i = snap (prec f) (U f * U f) a in
    let some : 0 < i = snap-above (prec f) 1 (U f * U f) a (prec-pos f) (rep-pow (prec f) 0 (prec-pos f)) h.above.some (le_trans (le_of_eq (one-mul a)) (le_trans (le_of_lt h.above.under) (U-square f))) in
    record {
      within = inverse-in f n d a h.above.at.1 h.least;
      some = at-positive f (div f one (fin false n d)) i (inverse-at f n d a h.above.at.1 h.least).0 some;
    }
