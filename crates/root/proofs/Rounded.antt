-- The root of a value above zero, as a bit pattern, from the whole number nearest to the root of its digits: once for any format.
-- Assumes nothing.
use Rattle.std.proofs.Common.{◌≡◌, ℕ, zero, suc, ◌+◌, ◌-◌, ◌*◌, ◌/◌, ◌^◌, ◌<◌, ◌≤◌, min, false, ap, ◌∙◌, inl, inr, lt_of_lt_of_le, mul-le-mul_right, div-lt_iff_lt-mul, mul-lt-mul_of_pos_right, mul-pos, lt_of_not-le, le-div_iff_mul-le, not-le_of_lt, arith, pow_pos, pow_mono, pow-add}
use native.Mathlib.Nat.{pow-succ'}
use lib.Ieee.{Format, prec, low, hid, ones, size, round, of_bits}
use lib.Ieee.Digits.{size-lt, size-le}
use lib.Ieee.Nearest.{closest}
use Rattle.rounding.proofs.Closest.{le-or-lt, closest-down, closest-up}
use Rattle.rounding.proofs.Round.{dropped}
use Rattle.rounding.proofs.Pattern.{round-bits}
use Rattle.rounding.proofs.Units.{prec-pos}
use Rattle.root.specs.Steps.{NearestWhole}
use Rattle.root.proofs.Squares.{Whole, root-lt, root-le}

-- ---- the whole part r of the root of n * (2 * h) * (2 * h), and q, the nearest to the root of n
module _ (n q h r : ℕ) (H : 0 < h) (w : Whole (n * (2 * h * (2 * h))) r) (near : NearestWhole n q) where
  hh : 0 < h * h
  hh = mul-pos H H

  not-less : (2 * q - 1) * h ≤ r
  not-less = root-le ((2 * q - 1) * h) r (go (2 * q - 1) near.above w.next)
    where
      go : (x : ℕ) → x * x < 4 * n → n * (2 * h * (2 * h)) < (r + 1) * (r + 1) → x * h * (x * h) < (r + 1) * (r + 1)
      go x a b = let k : x * x * (h * h) < 4 * n * (h * h) = mul-lt-mul_of_pos_right a hh in omega arith

  not_more : r < (2 * q + 1) * h
  not_more = root-lt r ((2 * q + 1) * h) (go (2 * q + 1) near.below w.most)
    where
      go : (x : ℕ) → 4 * n < x * x → r * r ≤ n * (2 * h * (2 * h)) → r * r < x * h * (x * h)
      go x a b = let k : 4 * n * (h * h) < x * x * (h * h) = mul-lt-mul_of_pos_right a hh in omega arith

  -- so r and a half, in units of 2 * h, is nearest to q
  to-nearest : closest (2 * r + 1) (4 * h) ≡ q
  to-nearest = go q near.some not-less not_more
    where
      go : (x : ℕ) → 0 < x → (2 * x - 1) * h ≤ r → r < (2 * x + 1) * h → closest (2 * r + 1) (4 * h) ≡ x
      go zero X a b = absurd (omega arith)
      go (suc x) X a b =
          let odd : 2 * suc x - 1 ≡ 2 * x + 1 = omega arith in
          let a' : (2 * x + 1) * h ≤ r = rw odd at a in
          elim (le-or-lt (suc x * (4 * h)) (2 * r + 1)) [
            | inl l ↦ closest-down (2 * r + 1) (4 * h) (suc x) (2 * r + 1 - suc x * (4 * h)) (omega arith) (omega arith)
            | inr l ↦ closest-up (2 * r + 1) (4 * h) x (2 * r + 1 - x * (4 * h)) (omega arith) (omega arith) (omega arith)
          ]

  -- with p digits of n's root
  module _ (p : ℕ) (least : 2 ^ p * 2 ^ p ≤ n) (most : n < 2 * 2 ^ p * (2 * 2 ^ p)) where
    r-least : 2 ^ p * (2 * h) ≤ r
    r-least = root-le (2 ^ p * (2 * h)) r (go (2 ^ p) least w.next)
      where
        go : (x : ℕ) → x * x ≤ n → n * (2 * h * (2 * h)) < (r + 1) * (r + 1) → x * (2 * h) * (x * (2 * h)) < (r + 1) * (r + 1)
        go x a b = let k : x * x * (h * h) ≤ n * (h * h) = mul-le-mul_right (h * h) a in omega arith

    r-most : r < 2 * 2 ^ p * (2 * h)
    r-most = root-lt r (2 * 2 ^ p * (2 * h)) (go (2 * 2 ^ p) most w.most)
      where
        go : (x : ℕ) → n < x * x → r * r ≤ n * (2 * h * (2 * h)) → r * r < x * (2 * h) * (x * (2 * h))
        go x a b = let k : n * (h * h) < x * x * (h * h) = mul-lt-mul_of_pos_right a hh in omega arith

-- ---- how many digits r and a half has, h being 2 ^ j
digits_of : (p j r : ℕ) → 2 ^ p * (2 * 2 ^ j) ≤ r → r < 2 * 2 ^ p * (2 * 2 ^ j) → size ((2 * r + 1) / 2 ^ 2) ≡ suc p + j
digits_of p j r a b =
    let n = (2 * r + 1) / 4 in
    let z : 0 < 4 = omega arith in
    let top = above (2 ^ p) (2 ^ j) (2 ^ (suc p + j)) (pow-add 2 (suc p) j ∙ ap (λ (x : ℕ). x * 2 ^ j) (pow-succ' 2 p)) b in
    let bottom = below (2 ^ p) (2 ^ j) (2 ^ (p + j)) (pow-add 2 p j) a in
    let hi : n < 2 ^ (suc p + j) = (div-lt_iff_lt-mul z).1 top in
    let lo : 2 ^ (p + j) ≤ n = (le-div_iff_mul-le z).1 bottom in
    let most = size-le n (suc p + j) hi in
    let least : p + j < size n = lt_of_not-le (λ (g : size n ≤ p + j). not-le_of_lt (lt_of_lt_of_le (size-lt n) (pow_mono g)) lo) in
    omega arith
  where
    above : (x h A : ℕ) → A ≡ 2 * x * h → r < 2 * x * (2 * h) → 2 * r + 1 < A * 4
    above x h A e l = omega arith

    below : (x h A : ℕ) → A ≡ x * h → x * (2 * h) ≤ r → A * 4 ≤ 2 * r + 1
    below x h A e l = omega arith

min-l : (a b : ℕ) → a ≤ b → min a b ≡ a
min-l a b h = omega arith

-- ---- the pattern
pub rounded-root : (f : Format) (n q j r : ℕ) → Whole (n * (2 * 2 ^ j * (2 * 2 ^ j))) r → NearestWhole n q → hid f * hid f ≤ n → n < 2 * hid f * (2 * hid f) → j * hid f + q ≤ ones f * hid f
    → round f false (2 * r + 1) (2 ^ (2 + low f)) ≡ of_bits f (j * hid f + q)
unfolding dropped
rounded-root f n q j r w near least most fits =
    let p = prec f - 1 in
    let h = 2 ^ j in
    let H : 0 < h = pow_pos j in
    let P = prec-pos f in
    let k-is : size ((2 * r + 1) / 2 ^ 2) - prec f ≡ j = ap (λ (x : ℕ). x - prec f) (digits_of p j r (r-least n q h r H w near p least most) (r-most n q h r H w near p least most)) ∙ back (prec f) P in
    round-bits f false (2 * r + 1) 2
    ∙ ap (λ (x : ℕ). of_bits f (0 + min (x * hid f + closest (2 * r + 1) (2 ^ 2 * 2 ^ x)) (ones f * hid f))) k-is
    ∙ ap (λ (x : ℕ). of_bits f (0 + min (j * hid f + x) (ones f * hid f))) (to-nearest n q h r H w near)
    ∙ ap (λ (x : ℕ). of_bits f (0 + x)) (min-l (j * hid f + q) (ones f * hid f) fits)
    ∙ ap (λ (x : ℕ). of_bits f x) (omega arith)
  where
    back : (x : ℕ) → 0 < x → suc (x - 1) + j - x ≡ j
    back x l = omega arith
