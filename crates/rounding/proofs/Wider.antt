-- An `f32` held in an `f64`: its bits there; and the bits that rounding to an `f64` leaves, rounded once more by adding half of an `f32`'s last place and cutting 29 digits.
-- Assumes nothing.
use mathlib.Core.Path.{◌≡◌, refl, sym, ap, ◌∙◌, subst}
use mathlib.Core.Logic.{inl, inr}
use Prim.Native.Nat.{ℕ, ◌+◌, ◌-◌, ◌*◌, ◌/◌, ◌%◌, ◌^◌, ◌≤◌, ◌<◌, min}
use native.Mathlib.Nat.{mul_assoc, mul-mul-mul_comm, mul-pos, eq_of_mul-eq-mul_right, mul_right_comm}
use native.Mathlib.Omega.{arith}
use mathlib.Core.Bool.{Bool, cond}
use lib.Pow.{pow-add, pow_pos, shr-shr}
use lib.Ieee.{Float, nan, inf, fin, binary32, binary64, up, down, round, of_bits, size}
use lib.Ieee.Fits.{fits_widens}
use lib.Ieee.Exact.{HasValue}
use lib.Ieee.Bits.{of_bits-fits}
use lib.Ieee.Nearest.{closest}
use Rattle.rounding.specs.Steps.{significand}
use Rattle.rounding.proofs.Closest.{le-or-lt, closest-down, closest-tie}
use Rattle.rounding.proofs.Round.{dropped}
use Rattle.rounding.proofs.Pattern.{kept-le, round-bits}
use Rattle.rounding.proofs.Values.{bits-value}
use Rattle.rounding.proofs.Machine.{significand-some}
use Rattle.rounding.proofs.Terms.{behind-sign, sign_of}
use Rattle.rounding.proofs.Nearby.{bits-finite}
use Rattle.rounding.proofs.Units.{unique}
use Rattle.rounding.proofs.Twice.{closest-coarse, size-shr, dropped-fewer, kept-fewer, kept-exact}

-- In an `f64`'s pattern 536870912, 2 ^ 29, is the weight of an `f32`'s last place and 268435456 half of it; 4503599627370496, 2 ^ 52, is an exponent's, and 4035225266123964416 is 896 of them, by which an `f64`'s lie above an `f32`'s.

-- ---- a normal `f32` has, as an `f64`, 29 digits more, all 0, and an exponent that is 896 more
wide_value : (s : Bool) (r : ℕ) → 8388608 ≤ r → r < 2139095040
    → HasValue (of_bits binary64 (cond s 9223372036854775808 0 + (r * 536870912 + 4035225266123964416))) s (significand 8388608 r * 2 ^ (r / 8388608 - 1)) (2 ^ 149)
wide_value s r lo hi =
    let R = r * 536870912 + 4035225266123964416 in
    let b = cond s 9223372036854775808 0 + R in
    let b_rest : b % 9223372036854775808 ≡ R = behind-sign binary64 s R (omega arith) in
    let h = bits-value binary64 b (bits-finite binary64 b (omega arith)) in
    scaled (of_bits binary64 b) s (significand 8388608 r * 2 ^ (r / 8388608 - 1))
    (subst (λ (x : ℕ). HasValue (of_bits binary64 b) s x (2 ^ 1074)) (same R refl)
    (subst (λ (x : ℕ). HasValue (of_bits binary64 b) s (significand 4503599627370496 x * 2 ^ (x / 4503599627370496 - 1)) (2 ^ 1074)) b_rest
    (subst (λ (x : Bool). HasValue (of_bits binary64 b) x (significand 4503599627370496 (b % 9223372036854775808) * 2 ^ (b % 9223372036854775808 / 4503599627370496 - 1)) (2 ^ 1074)) (sign_of binary64 s R (omega arith)) h)))
  where
    same : (R : ℕ) → R ≡ r * 536870912 + 4035225266123964416 → significand 4503599627370496 R * 2 ^ (R / 4503599627370496 - 1) ≡ significand 8388608 r * 2 ^ (r / 8388608 - 1) * 2 ^ 925
    same R e =
        let a = significand-some 4503599627370496 R (λ (z : R / 4503599627370496 ≡ 0). omega arith) in
        let b = significand-some 8388608 r (λ (z : r / 8388608 ≡ 0). omega arith) in
        let m : significand 4503599627370496 R ≡ significand 8388608 r * 536870912 = omega arith in
        let x : R / 4503599627370496 - 1 ≡ r / 8388608 - 1 + 896 = omega arith in
        ap (λ (z : ℕ). z * 2 ^ (R / 4503599627370496 - 1)) m
        ∙ ap (λ (z : ℕ). significand 8388608 r * 536870912 * z) (ap (λ (z : ℕ). 2 ^ z) x ∙ pow-add 2 (r / 8388608 - 1) 896)
        ∙ mul-mul-mul_comm (significand 8388608 r) 536870912 (2 ^ (r / 8388608 - 1)) (2 ^ 896)

    scaled : (y : Float) (s : Bool) (a : ℕ) → HasValue y s (a * 2 ^ 925) (2 ^ 1074) → HasValue y s a (2 ^ 149)
    scaled nan s a h = absurd h
    scaled (inf t) s a h = absurd h
    scaled (fin t m e) s a (p, h) =
        (p, eq_of_mul-eq-mul_right (2 ^ 925) (pow_pos 925) (m * up e * 2 ^ 149) (a * down e) (mul_assoc (m * up e) (2 ^ 149) (2 ^ 925) ∙ h ∙ mul_right_comm a (2 ^ 925) (down e)))

wide-bits : (s : Bool) (r : ℕ) → 8388608 ≤ r → r < 2139095040
    → of_bits binary64 (cond s 9223372036854775808 0 + (r * 536870912 + 4035225266123964416)) ≡ of_bits binary32 (cond s 2147483648 0 + r)
wide-bits s r lo hi =
    let b = cond s 2147483648 0 + r in
    let b_rest : b % 2147483648 ≡ r = behind-sign binary32 s r (omega arith) in
    let h = bits-value binary32 b (bits-finite binary32 b (omega arith)) in
    unique binary64 (of_bits binary64 (cond s 9223372036854775808 0 + (r * 536870912 + 4035225266123964416))) (of_bits binary32 b) s (significand 8388608 r * 2 ^ (r / 8388608 - 1)) (2 ^ 149) (pow_pos 149)
    (of_bits-fits binary64 (cond s 9223372036854775808 0 + (r * 536870912 + 4035225266123964416))) (fits_widens (of_bits binary32 b) (of_bits-fits binary32 b)) (wide_value s r lo hi)
    (subst (λ (x : ℕ). HasValue (of_bits binary32 b) s (significand 8388608 x * 2 ^ (x / 8388608 - 1)) (2 ^ 149)) b_rest
    (subst (λ (x : Bool). HasValue (of_bits binary32 b) x (significand 8388608 (b % 2147483648) * 2 ^ (b % 2147483648 / 8388608 - 1)) (2 ^ 149)) (sign_of binary32 s r (omega arith)) h))

-- ---- A / 2 ^ d units of 2 ^ -1074, rounded to an `f64`: its pattern without the sign
abbrev pub wide-pattern : ℕ → ℕ → ℕ
wide-pattern A d = min (dropped binary64 A d * 4503599627370496 + closest A (2 ^ d * 2 ^ dropped binary64 A d)) 9218868437227405312

-- its exponent is a normal `f32`'s, and not the largest; and it is not halfway between two `f32`
module _ (A d : ℕ) (lo : 4039728865751334912 ≤ wide-pattern A d) (hi : wide-pattern A d < 5179139571476070400) where
  is : wide-pattern A d ≡ dropped binary64 A d * 4503599627370496 + closest A (2 ^ d * 2 ^ dropped binary64 A d)
  is = omega arith

  q-le : closest A (2 ^ d * 2 ^ dropped binary64 A d) ≤ 9007199254740992
  unfolding dropped
  q-le = kept-le 53 A d

  -- up to 2 ^ -126, where it came from below, an `f32` has the step that it has from there on
  least : dropped binary64 A d < 896 → (dropped binary64 A d ≡ 895) × (closest A (2 ^ d * 2 ^ dropped binary64 A d) ≡ 9007199254740992)
  least h = (omega (arith, is, q-le), omega (arith, is, q-le))

  edge-dropped : dropped binary64 A d < 896 → dropped binary32 A (d + 925) ≡ 0
  unfolding dropped
  edge-dropped h = ap (λ (x : ℕ). size x - 24) (sym (shr-shr A d 925)) ∙ ap (λ (x : ℕ). x - 24) (size-shr (A / 2 ^ d) 925) ∙ omega (arith, (least h).0)

  edge_kept : dropped binary64 A d < 896 → closest A (2 ^ (d + 925) * 2 ^ dropped binary32 A (d + 925)) ≡ 8388608
  edge_kept h =
      let u = 2 ^ d * 2 ^ dropped binary64 A d in
      let q-is : closest A u ≡ 9007199254740992 = (least h).1 in
      let e : 2 ^ (d + 925) * 2 ^ dropped binary32 A (d + 925) ≡ u * 1073741824 =
      ap (λ (x : ℕ). 2 ^ (d + 925) * 2 ^ x) (edge-dropped h) ∙ sym (pow-add 2 (d + 925) 0) ∙ ap (λ (x : ℕ). 2 ^ x) (sums d)
      ∙ pow-add 2 (d + 895) 30 ∙ ap (λ (x : ℕ). x * 1073741824) (pow-add 2 d 895) ∙ ap (λ (x : ℕ). 2 ^ d * 2 ^ x * 1073741824) (sym (least h).0) in
      ap (λ (x : ℕ). closest A x) e
      ∙ closest-coarse A u 536870912 (mul-pos (pow_pos d) (pow_pos (dropped binary64 A d))) (omega arith) (λ (t : closest A u % 1073741824 ≡ 536870912). omega (arith, q-is))
      ∙ ap (λ (x : ℕ). (x + 536870912) / 1073741824) q-is
    where
      sums : (x : ℕ) → x + 925 + 0 ≡ x + 895 + 30
      sums x = omega arith

  narrow-pattern : (wide-pattern A d % 536870912 ≡ 268435456 → ⊥)
      → dropped binary32 A (d + 925) * 8388608 + closest A (2 ^ (d + 925) * 2 ^ dropped binary32 A (d + 925)) ≡ (wide-pattern A d - 4035225266123964416 + 268435456) / 536870912
  narrow-pattern n =
      let j = dropped binary64 A d in
      let q = closest A (2 ^ d * 2 ^ j) in
      elim (le-or-lt 896 j) [
        | inl h ↦
            let k = dropped-fewer binary32 binary64 28 925 A d refl (omega arith) (omega arith) in
            let c = kept-fewer binary32 binary64 28 925 A d refl (omega arith) (omega arith) (λ (t : q % 536870912 ≡ 268435456). n (omega (arith, is))) in
            omega (arith, k, c, is, q-le)
        | inr h ↦ omega (arith, edge-dropped h, edge_kept h, (least h).0, (least h).1, is)
      ]

  cast : (s : Bool) (r : ℕ) → dropped binary32 A (d + 925) * 8388608 + closest A (2 ^ (d + 925) * 2 ^ dropped binary32 A (d + 925)) ≡ r → 8388608 ≤ r → r < 2139095040
      → round binary32 s A (2 ^ (d + 1074)) ≡ of_bits binary64 (cond s 9223372036854775808 0 + (r * 536870912 + 4035225266123964416))
  cast s r e least most =
      ap (λ (x : ℕ). round binary32 s A (2 ^ x)) (sums d)
      ∙ round-bits binary32 s A (d + 925)
      ∙ ap (λ (x : ℕ). of_bits binary32 (cond s 2147483648 0 + min x 2139095040)) e
      ∙ ap (λ (x : ℕ). of_bits binary32 (cond s 2147483648 0 + x)) (omega arith)
      ∙ sym (wide-bits s r least most)
    where
      sums : (x : ℕ) → x + 1074 ≡ x + 925 + 149
      sums x = omega arith

  pub narrowed : (wide-pattern A d % 536870912 ≡ 268435456 → ⊥) → (s : Bool)
      → round binary32 s A (2 ^ (d + 1074)) ≡ of_bits binary64 (cond s 9223372036854775808 0 + (wide-pattern A d + 268435456 - (wide-pattern A d + 268435456) % 536870912))
  narrowed n s =
      let w = wide-pattern A d in
      let r = (w - 4035225266123964416 + 268435456) / 536870912 in
      let back : w + 268435456 - (w + 268435456) % 536870912 ≡ r * 536870912 + 4035225266123964416 = omega arith in
      cast s r (narrow-pattern n) (omega arith) (omega arith) ∙ ap (λ (x : ℕ). of_bits binary64 (cond s 9223372036854775808 0 + x)) (sym back)

  -- halfway between two, and exact: to the even one
  pub tied : (z : ℕ) → A ≡ z * (2 ^ d * 2 ^ dropped binary64 A d) → wide-pattern A d % 536870912 ≡ 268435456 → (s : Bool)
      → round binary32 s A (2 ^ (d + 1074)) ≡ of_bits binary64 (cond s 9223372036854775808 0 + (wide-pattern A d + 268435456 - (wide-pattern A d + 268435456) % 1073741824))
  tied z e h s =
      let w = wide-pattern A d in
      let j = dropped binary64 A d in
      let u = 2 ^ d * 2 ^ j in
      let q-is : closest A u ≡ z = closest-down A u z 0 (omega arith) (mul-pos (pow_pos d) (pow_pos j)) in
      let j-ge : 896 ≤ j = elim (le-or-lt 896 j) [ inl g ↦ g | inr g ↦ absurd (omega (arith, is, (least g).1)) ] in
      let k = dropped-fewer binary32 binary64 28 925 A d refl (omega arith) (omega arith) in
      let c : closest A (2 ^ (d + 925) * 2 ^ dropped binary32 A (d + 925)) ≡ z / 536870912 + z / 536870912 % 2 =
      kept-exact binary32 binary64 28 925 A d refl (omega arith) (omega arith) z e ∙ closest-tie z 536870912 (z / 536870912) 268435456 (omega (arith, is, q-is)) (omega arith) refl in
      let r = dropped binary32 A (d + 925) * 8388608 + (z / 536870912 + z / 536870912 % 2) in
      let back : w + 268435456 - (w + 268435456) % 1073741824 ≡ r * 536870912 + 4035225266123964416 = omega (arith, is, q-is, k, j-ge) in
      cast s r (ap (λ (x : ℕ). dropped binary32 A (d + 925) * 8388608 + x) c) (omega (arith, is, q-is, q-le, k, j-ge)) (omega (arith, is, q-is, q-le, k, j-ge)) ∙ ap (λ (x : ℕ). of_bits binary64 (cond s 9223372036854775808 0 + x)) (sym back)
