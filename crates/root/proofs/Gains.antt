-- Gains by roots, for either format: for each finite x from 1 up, 1 / s and 1 / (s * q) are above 0 and at most 1, s being the root of x and q that of s, rounding included.
-- Assumes nothing.
use Rattle.std.proofs.Common.{◌≡◌, ℕ, suc, ◌+◌, ◌*◌, ◌^◌, ◌<◌, ◌≤◌, T, sym, refl, ap, ◌∙◌, subst, le_trans, le_of_eq, le_of_lt, mul-le-mul, add_comm, arith, pow-add}
use lib.Pow.{pow-lt}
use lib.Ieee.{Float, Format, binary32, binary64, prec, emax, low, fits, le, mul, div}
use lib.Ieee.Positive.{positive}
use lib.Ieee.Scale.{overflow}
use Rattle.rounding.proofs.Snap.{snap, Rep, rep-pow}
use Rattle.rounding.proofs.Units.{U, U-is, prec-pos}
use Rattle.rounding.proofs.Smoothing.{one}
use Rattle.rounding.proofs.Gains.{FromOne, from_one, product, Gain, inverse}
use Rattle.root.specs.Root.{root}
use Rattle.root.proofs.Sizes.{root_size, root-power}
use Rattle.root.proofs.Laws.{root-from-one}

-- what f holds is below 2 ^ (4 * quarter)
abbrev quarter : Format → ℕ
quarter binary32 = 32
quarter binary64 = 256

power : (f : Format) (k : ℕ) → 2 ^ k * U f ≡ 2 ^ (low f + k)
power f k = ap (λ (z : ℕ). 2 ^ k * z) (sym (U-is f)) ∙ sym (pow-add 2 k (low f)) ∙ ap (λ (z : ℕ). 2 ^ z) (add_comm k (low f))

four_quarters : (f : Format) → overflow f ≡ 2 ^ (quarter f + quarter f + (quarter f + quarter f)) * U f
four_quarters f = go f ∙ sym (power f (quarter f + quarter f + (quarter f + quarter f)))
  where
    go : (f : Format) → 2 ^ (low f + suc (emax f)) ≡ 2 ^ (low f + (quarter f + quarter f + (quarter f + quarter f)))
    go binary32 = refl
    go binary64 = refl

module _ (f : Format) (x : Float) (hx : T (fits f x)) (px : T (positive x)) (l : T (le one x)) where
  -- ratio 2
  pub gain-two : Gain f (div f one (root f x))
  gain-two = let a = from_one f x hx px l in inverse f (root f x) (root_size f a.0) (root-from-one f x a.0 a.1)

  -- s takes two quarters of the exponents at most and q one, and so their product three: s * q is 1 or more, and finite
  pub roots-product : (a : ℕ) × FromOne f (mul f (root f x) (root f (root f x))) a
  roots-product =
      let h = quarter f in
      let a = from_one f x hx px l in
      let b = root_size f a.0 in
      let s = root-from-one f x a.0 a.1 in
      let c = root_size f b in
      let q = root-from-one f (root f x) b s in
      let b_most : b ≤ 2 ^ (h + h) * U f = root-power f a.0 a.1.above.rep (h + h) (le_trans (le_of_lt a.1.above.under) (le_of_eq (four_quarters f))) in
      let c_most : c ≤ 2 ^ h * U f = root-power f b s.above.rep h b_most in
      let m = 2 ^ (h + h) * 2 ^ h * U f in
      let m-is : 2 ^ (low f + (h + h + h)) ≡ m = sym (ap (λ (z : ℕ). z * U f) (sym (pow-add 2 (h + h) h)) ∙ power f (h + h + h)) in (
        snap (prec f) (b * c) (U f),
        product f (root f x) (root f (root f x)) b c m s q (subst (λ (z : ℕ). Rep (prec f) z) m-is (rep-pow (prec f) (low f + (h + h + h)) (prec-pos f)))
            (subst (λ (z : ℕ). z < overflow f) m-is (pow-lt {i = low f + (h + h + h)} {j = low f + suc (emax f)} (room f)))
            (le_trans (mul-le-mul b_most c_most) (le_of_eq (regroup (2 ^ (h + h)) (2 ^ h) (U f)))),
      )
    where
      room : (f : Format) → low f + (quarter f + quarter f + quarter f) < low f + suc (emax f)
      room binary32 = omega arith
      room binary64 = omega arith

      regroup : (x y v : ℕ) → x * v * (y * v) ≡ x * y * v * v
      regroup x y v = omega arith

  -- ratio 4
  pub gain-four : Gain f (div f one (mul f (root f x) (root f (root f x))))
  gain-four = let p = roots-product in inverse f (mul f (root f x) (root f (root f x))) p.0 p.1
