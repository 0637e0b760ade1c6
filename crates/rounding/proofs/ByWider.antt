-- `fma` of three `f32` by the bits of their sum as `f64`: what each test of the code says of it, and what is returned there.
-- Assumes nothing.
use mathlib.Core.Path.{◌≡◌, refl, sym, ap, ◌∙◌, subst}
use mathlib.Core.Logic.{◌⊎◌, inl, inr}
use Prim.Native.Nat.{ℕ, ◌+◌, ◌-◌, ◌*◌, ◌/◌, ◌%◌, ◌^◌, ◌≤◌, ◌<◌}
use native.Mathlib.Nat.{eq-zero-or-pos, zero-mul, zero-div, one-mul}
use native.Mathlib.Omega.{arith}
use mathlib.Core.Bool.{Bool, true, false, not, ◌&&◌, cond}
use lib.IntN.{ℤ}
use lib.Dec.{T}
use lib.Pow.{pow_pos}
use lib.Ieee.{Float, nan, fin, binary32, binary64, up, down, add, mul, eq, round, fits, is_nan, nan_bits, of_bits, to_bits, size}
use lib.Ieee.Fits.{add-fits, and_i}
use lib.Ieee.Bits.{of_bits-to_bits, to_bits-of_bits, nan_bits_is}
use lib.Ieee.Nearest.{closest}
use lib.Ieee.Scale.{finite}
use Rattle.rounding.specs.Fma.{fma}
use Rattle.rounding.proofs.Round.{dropped}
use Rattle.rounding.proofs.Pattern.{kept-le, kept-ge, round-bits}
use Rattle.rounding.proofs.Machine.{nearest-own}
use Rattle.rounding.proofs.Terms.{behind-sign, no_nan}
use Rattle.rounding.proofs.Nearby.{bits-finite}
use Rattle.rounding.proofs.Units.{to_bits_is}
use Rattle.rounding.proofs.Nan.{upto}
use Rattle.rounding.proofs.Zero.{is_zero, round-nought}
use Rattle.rounding.proofs.Sizes.{fma-fits}
use Rattle.rounding.proofs.Twice.{size-shr}
use Rattle.rounding.proofs.Wider.{wide-pattern, narrowed, tied}
use Rattle.rounding.proofs.WideSum.{field, Both, both, Plain, once, clash, finite-operands}

-- ---- the pattern of the `f64`
pattern-of : (u : Bool) (n : ℕ) → round binary64 u n (2 ^ 1074) ≡ of_bits binary64 (cond u 9223372036854775808 0 + wide-pattern n 0)
pattern-of u n = round-bits binary64 u n 0

wide-most : (n : ℕ) → wide-pattern n 0 ≤ 9218868437227405312
wide-most n = omega arith

wide-lt : (n : ℕ) → size n ≤ 1333 → wide-pattern n 0 < 9218868437227405312
unfolding dropped
wide-lt n h = omega (arith, kept-le 53 n 0, size-shr n 0)

of-no-nan : (u : Bool) (n : ℕ) → T (not (is_nan (of_bits binary64 (cond u 9223372036854775808 0 + wide-pattern n 0))))
of-no-nan u n = subst (λ (b : Bool). T (not b)) (nan_bits_is binary64 (cond u 9223372036854775808 0 + wide-pattern n 0)) (no_nan binary64 u (wide-pattern n 0) (wide-most n))

pattern-is : (u : Bool) (n : ℕ) → to_bits binary64 (round binary64 u n (2 ^ 1074)) ≡ cond u 9223372036854775808 0 + wide-pattern n 0
pattern-is u n = ap (λ (x : Float). to_bits binary64 x) (pattern-of u n) ∙ to_bits-of_bits binary64 (cond u 9223372036854775808 0 + wide-pattern n 0) (bound u (wide-most n)) (of-no-nan u n)
  where
    bound : (u : Bool) → wide-pattern n 0 ≤ 9218868437227405312 → cond u 9223372036854775808 0 + wide-pattern n 0 < 18446744073709551616
    bound true h = omega arith
    bound false h = omega arith

-- ---- a zero's pattern
zero_pattern : (s : Bool) (e : ℤ) → to_bits binary64 (fin s 0 e) % 9223372036854775808 ≡ 0
unfolding size
zero_pattern s e = ap (λ (x : ℕ). x % 9223372036854775808) (to_bits_is binary64 s 0 e 0 (none e)) ∙ signed s
  where
    signed : (s : Bool) → (cond s 9223372036854775808 0 + (size 0 - 53) * 4503599627370496 + 0 / 2 ^ (size 0 - 53)) % 9223372036854775808 ≡ 0
    signed true = refl
    signed false = refl

    none : (e : ℤ) → 0 * up e * 2 ^ 1074 / down e ≡ 0
    none e = simp (zero-mul, zero-div)

-- ---- the only number that gives a zero's pattern
wide-none : (n : ℕ) → wide-pattern n 0 ≡ 0 → n ≡ 0
wide-none n h =
    let k : dropped binary64 n 0 ≡ 0 = omega arith in
    let q : closest n (2 ^ 0 * 2 ^ dropped binary64 n 0) ≡ n = ap (λ (x : ℕ). closest n (2 ^ 0 * 2 ^ x)) k ∙ nearest-own n in
    omega arith

-- the digits dropped are fewer than the exponent's field says
dropped-lt : (n w : ℕ) → w ≡ wide-pattern n 0 → 4503599627370496 ≤ w → w < 9218868437227405312 → dropped binary64 n 0 + 1 ≤ w / 4503599627370496
unfolding dropped
dropped-lt n w e lo hi =
    elim (eq-zero-or-pos (dropped binary64 n 0)) [
      | inl z ↦ omega arith
      | inr p ↦ omega (arith, kept-ge 53 n 0 (omega arith) p)
    ]

-- ---- the tests of the code, on three `f32`
module _ (x y z : Float) (hx : T (fits binary32 x)) (hy : T (fits binary32 y)) (hz : T (fits binary32 z)) where
  -- the `f64` is a NaN
  pub wide-nan : add binary64 (mul binary64 x y) z ≡ nan → fma binary32 x y z ≡ nan
  unfolding is_nan
  wide-nan h = go (once x y z hx hy hz)
    where
      go : Plain x y z ⊎ Both x y z → fma binary32 x y z ≡ nan
      go (inl p) = sym p.0 ∙ h
      go (inr b) = absurd (subst (λ (w : Float). T (not (is_nan w))) (sym (pattern-of b.sign b.of) ∙ sym b.wide ∙ h) (of-no-nan b.sign b.of))

  -- it is a zero: then so is the sum, exactly
  pub wide-zero : eq (add binary64 (mul binary64 x y) z) (of_bits binary64 0) ≡ true → add binary64 (mul binary64 x y) z ≡ fma binary32 x y z
  wide-zero h = go (once x y z hx hy hz)
    where
      go : Plain x y z ⊎ Both x y z → add binary64 (mul binary64 x y) z ≡ fma binary32 x y z
      go (inl p) = p.0
      go (inr b) =
          let u = b.sign in
          let n = b.of in
          let w = is_zero binary64 (add binary64 (mul binary64 x y) z) h in
          let none : wide-pattern n 0 ≡ 0 = sym (behind-sign binary64 u (wide-pattern n 0) (wide-most n)) ∙ ap (λ (v : ℕ). v % 9223372036854775808) (sym (pattern-is u n)) ∙ ap (λ (v : Float). to_bits binary64 v % 9223372036854775808) (sym b.wide ∙ w.1.1) ∙ zero_pattern w.0 w.1.0 in
          b.wide ∙ ap (λ (v : ℕ). round binary64 u v (2 ^ 1074)) (wide-none n none) ∙ round-nought binary64 u (2 ^ 1074) (pow_pos 1074)
          ∙ sym (b.narrow ∙ ap (λ (v : ℕ). round binary32 u v (2 ^ 1074)) (wide-none n none) ∙ round-nought binary32 u (2 ^ 1074) (pow_pos 1074))

  -- it is not finite: then it is the sum
  pub wide-away : T (not (finite (add binary64 (mul binary64 x y) z))) → add binary64 (mul binary64 x y) z ≡ fma binary32 x y z
  wide-away h = elim (once x y z hx hy hz) [ inl p ↦ p.0 | inr b ↦ absurd (clash (add binary64 (mul binary64 x y) z) (subst (λ (v : Float). T (finite v)) (sym (b.wide ∙ pattern-of b.sign b.of)) (bounded b.sign b.of (wide-lt b.of b.digits_le))) h) ]
    where
      bounded : (u : Bool) (n : ℕ) → wide-pattern n 0 < 9218868437227405312 → T (finite (of_bits binary64 (cond u 9223372036854775808 0 + wide-pattern n 0)))
      bounded u n l = let r = behind-sign binary64 u (wide-pattern n 0) (wide-most n) in bits-finite binary64 (cond u 9223372036854775808 0 + wide-pattern n 0) (omega arith)

  -- its pattern W has a normal `f32`'s exponent, and not the largest
  module _ (W : ℕ) (is-W : W ≡ to_bits binary64 (add binary64 (mul binary64 x y) z)) (lo : 897 ≤ W % 9223372036854775808 / 4503599627370496) (hi : W % 9223372036854775808 / 4503599627370496 ≤ 1149) where
    finite-all : Both x y z
    finite-all =
        let o = finite-operands x y z hx hy hz (subst (λ (v : Float). T (finite v)) (ap (λ (v : ℕ). of_bits binary64 v) is-W ∙ of_bits-to_bits binary64 (add binary64 (mul binary64 x y) z) (add-fits binary64 (mul binary64 x y) z)) (bits-finite binary64 W (omega arith))) in
        both x y z hx hy hz o.0 o.1.0 o.1.1

    u : Bool
    u = finite-all.sign

    n : ℕ
    n = finite-all.of

    W-is : W ≡ cond u 9223372036854775808 0 + wide-pattern n 0
    unfolding u n
    W-is = is-W ∙ ap (λ (v : Float). to_bits binary64 v) finite-all.wide ∙ pattern-is u n

    w-is : W % 9223372036854775808 ≡ wide-pattern n 0
    w-is = ap (λ (v : ℕ). v % 9223372036854775808) W-is ∙ behind-sign binary64 u (wide-pattern n 0) (wide-most n)

    -- and is not halfway between two: half of an `f32`'s last place added, and the 29 digits past it cut off
    pub wide-cut : ((W + 268435456) % 536870912 ≡ 0 → ⊥) → of_bits binary64 (W + 268435456 - (W + 268435456) % 536870912) ≡ fma binary32 x y z
    unfolding u n
    wide-cut apart_from =
        let i = w-is in
        ap (λ (v : ℕ). of_bits binary64 v) (apart u (wide-pattern n 0) W-is)
        ∙ sym (narrowed n 0 (omega arith) (omega arith) (λ (t : wide-pattern n 0 % 536870912 ≡ 268435456). apart_from (omega arith)) u)
        ∙ sym finite-all.narrow
      where
        apart : (u : Bool) (w : ℕ) → W ≡ cond u 9223372036854775808 0 + w → W + 268435456 - (W + 268435456) % 536870912 ≡ cond u 9223372036854775808 0 + (w + 268435456 - (w + 268435456) % 536870912)
        apart true w e = omega arith
        apart false w e = omega arith

    -- or is halfway, and neither term has a digit past its last: 30 digits cut off
    pub wide-tie : (W + 268435456) % 536870912 ≡ 0 → W % 9223372036854775808 / 4503599627370496 ≤ field x + field y + 775 → W % 9223372036854775808 / 4503599627370496 ≤ field z + 925
        → of_bits binary64 (W + 268435456 - (W + 268435456) % 1073741824) ≡ fma binary32 x y z
    unfolding u n
    wide-tie half hp hc =
        let i = w-is in
        let k-le : dropped binary64 n 0 + 1 ≤ W % 9223372036854775808 / 4503599627370496 = dropped-lt n (W % 9223372036854775808) w-is (omega arith) (omega arith) in
        let q = finite-all.whole (dropped binary64 n 0) (omega arith) (omega arith) in
        ap (λ (v : ℕ). of_bits binary64 v) (apart u (wide-pattern n 0) W-is)
        ∙ sym (tied n 0 (omega arith) (omega arith) q.0 (q.1 ∙ ap (λ (v : ℕ). q.0 * v) (sym (one-mul (2 ^ dropped binary64 n 0)))) (omega arith) u)
        ∙ sym finite-all.narrow
      where
        apart : (u : Bool) (w : ℕ) → W ≡ cond u 9223372036854775808 0 + w → W + 268435456 - (W + 268435456) % 1073741824 ≡ cond u 9223372036854775808 0 + (w + 268435456 - (w + 268435456) % 1073741824)
        apart true w e = omega arith
        apart false w e = omega arith

-- ---- what a cast to `f32` asks: of a value that is the sum, and of the pattern that the cut leaves
pub wide_fits : (r x y z : Float) → r ≡ fma binary32 x y z → T (not (is_nan r)) → T (fits binary32 r && not (is_nan r))
wide_fits r x y z e h = and_i (fits binary32 r) (not (is_nan r)) (subst (λ (v : Float). T (fits binary32 v)) (sym e) (fma-fits binary32 x y z)) h

pub cut-no-nan : (W : ℕ) → W % 9223372036854775808 / 4503599627370496 ≤ 1149 → T (not (nan_bits binary64 (W + 268435456 - (W + 268435456) % 536870912)))
cut-no-nan W h = upto binary64 (W + 268435456 - (W + 268435456) % 536870912) (omega arith)

pub tie-no-nan : (W : ℕ) → W % 9223372036854775808 / 4503599627370496 ≤ 1149 → T (not (nan_bits binary64 (W + 268435456 - (W + 268435456) % 1073741824)))
tie-no-nan W h = upto binary64 (W + 268435456 - (W + 268435456) % 1073741824) (omega arith)
