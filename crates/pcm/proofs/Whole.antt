-- The nearest whole number to a size, by its whole part and a comparison with the tie above that. Assumes nothing.
use mathlib.Core.Path.{◌≡◌, refl, sym, ap, ◌∙◌, subst}
use Prim.Native.Nat.{ℕ, ◌+◌, ◌-◌, ◌*◌, ◌/◌, ◌%◌, ◌^◌, ◌≤◌, ◌<◌, min, compare}
use native.Mathlib.Nat.{le_trans, lt_of_mul-lt-mul_right, mul-lt-mul_of_pos_right, mul_right_comm, mul-one, mul_assoc, add-mul, div-add-mod', mod-lt, lt_of_lt_of_le, eq_of_mul-eq-mul_right}
use native.Mathlib.Numerals.{add-one}
use lib.Pow.{pow_pos}
use native.Mathlib.Omega.{arith}
use mathlib.Core.Bool.{true, false, true≢false}
use lib.IntN.{ℤ, pos, negsuc}
use lib.Dec.{lit≤}
use lib.Ieee.{Float, nan, inf, fin, binary32, up, down, lt, add, sum, of_int, to_unsigned}
use lib.Ieee.Back.{round_whole}
use lib.Ieee.Exact.{HasValue, round_exact}
use lib.Ieee.Fits.{down_pos}
use lib.Ieee.Nearest.{closest, nearest-ge}
use lib.Ieee.Scale.{round_same}
use borrow.Author.Tests.{ltb-true, ltb-false, le-ltb}
use Rattle.rounding.specs.Casts.{absolute}
use Rattle.rounding.proofs.Closest.{closest-down, closest-tie, closest-up}
use Rattle.answer.specs.Figures.{nought}
use Rattle.pcm.specs.Figures.{lowest, highest}
use Rattle.pcm.specs.Samples.{word_of, whole_size, to_whole}
use Rattle.pcm.proofs.Signed.{minus-word}

abbrev half : Float
half = fin false 1 (negsuc 0)

-- ---- the tie above a whole number n is exact
abbrev pub tie-above : ℕ → Float
tie-above n = add binary32 (of_int binary32 (pos n)) half

twice-and-one : (n d : ℕ) → (n * d * 2 + 1 * d) * 2 ≡ (2 * n + 1) * (d * 2)
twice-and-one n d = omega (arith, add-mul (2 * n) 1 (d * 2), mul_assoc 2 n (d * 2), mul_assoc n d 2)

module _ (n : ℕ) (small : n ≤ 0x8000) where
  add_half : (y : Float) → HasValue y false n 1 → HasValue (add binary32 y half) false (2 * n + 1) 2
  unfolding add sum
  add_half nan v = absurd v
  add_half (inf s) v = absurd v
  add_half (fin true k d) v = absurd (true≢false v.0)
  add_half (fin false k d) v =
      let p = down_pos d in
      let e : k * up d ≡ n * down d = sym (mul-one (k * up d)) ∙ v.1 in
      subst (λ (x : Float). HasValue x false (2 * n + 1) 2)
      (sym (round_same binary32 false (k * up d * 2 + 1 * 1 * down d) (down d * 2) (2 * n + 1) 2 (omega arith) (omega arith) (rw e (twice-and-one n (down d)))))
      (round_exact binary32 false (2 * n + 1) 2 (2 * n + 1) 148 (omega arith) (omega arith)
      (lt_of_lt_of_le (mul-lt-mul_of_pos_right {m = 2 * n + 1} {n = 2 ^ 24} {k = 2 ^ 148} (omega arith) (pow_pos 148)) (lit≤ tt))
      (sym (mul_assoc (2 * n + 1) (2 ^ 148) 2)))

  pub tie-value : HasValue (tie-above n) false (2 * n + 1) 2
  unfolding of_int
  tie-value = add_half (of_int binary32 (pos n)) (round_whole binary32 false n (omega arith))

-- ---- a / b against n and a half, which is t / d
module _ (a b n t d : ℕ) (is : t * 2 ≡ (2 * n + 1) * d) where
  left : a * d * 2 ≡ a * 2 * d
  left = mul_right_comm a d 2

  right : t * b * 2 ≡ (2 * n + 1) * b * d
  right = mul_right_comm t b 2 ∙ ap (λ (x : ℕ). x * b) is ∙ mul_right_comm (2 * n + 1) d b

  under : a * d < t * b → a * 2 < (2 * n + 1) * b
  under h = lt_of_mul-lt-mul_right d (omega (arith, left, right))

  over : t * b < a * d → (2 * n + 1) * b < a * 2
  over h = lt_of_mul-lt-mul_right d (omega (arith, left, right))

  same : 0 < d → a * d ≤ t * b → t * b ≤ a * d → a * 2 ≡ (2 * n + 1) * b
  same p h k = eq_of_mul-eq-mul_right d p (a * 2) ((2 * n + 1) * b) (omega (arith, left, right))

-- a / b with the whole part n
module _ (a b n r : ℕ) (p : 0 < b) (e : n * b + r ≡ a) (l : r < b) where
  split : (2 * n + 1) * b ≡ n * b * 2 + b
  split = omega (arith, add-mul (2 * n) 1 b, mul_assoc 2 n b)

  near-under : a * 2 < (2 * n + 1) * b → closest a b ≡ n
  near-under h = closest-down a b n r (sym e) (omega (arith, split))

  near-over : (2 * n + 1) * b < a * 2 → closest a b ≡ n + 1
  near-over h = closest-up a b n r (sym e) l (omega (arith, split)) ∙ sym (add-one n)

  near_same : a * 2 ≡ (2 * n + 1) * b → closest a b ≡ n + n % 2
  near_same h = closest-tie a b n r (sym e) p (omega (arith, split))

-- ---- a size x with the whole part n, and y the tie above n
whole_part : (m : ℕ) (e : ℤ) (n most : ℕ) → most ≤ 0x8000 → n ≡ to_unsigned 64 (fin false m e) → n < most → n ≡ m * up e / down e
unfolding to_unsigned
whole_part m e n most small is h = omega arith

-- -0
zero-size : (m : ℕ) (e : ℤ) → lt (fin true m e) nought ≡ false → closest (m * up e) (down e) ≡ 0
unfolding lt
zero-size m e h = let p = down_pos e in let z = ltb-false 0 (m * up e * 1 + 0 * down e) h in closest-down (m * up e) (down e) 0 0 (omega arith) p

module _ (most : ℕ) (small : most ≤ 0x8000) where
  pub held-size : (x : Float) → lt x nought ≡ false → most ≤ to_unsigned 64 x → most ≡ whole_size most x
  unfolding lt to_unsigned whole_size
  held-size nan s h = omega arith
  held-size (inf true) s h = absurd (true≢false s)
  held-size (inf false) s h = refl
  held-size (fin true m e) s h = omega arith
  held-size (fin false m e) s h = omega (arith, nearest-ge (m * up e / down e) (compare (m * up e % down e * 2) (down e)))

  module _ (n : ℕ) (few : n < most) where
    -- a finite size, m * 2 ^ e, beside a tie of k * 2 ^ d
    module _ (m : ℕ) (e : ℤ) (k : ℕ) (d : ℤ) (is : n ≡ to_unsigned 64 (fin false m e)) (v : k * up d * 2 ≡ (2 * n + 1) * down d) where
      rest : n * down e + m * up e % down e ≡ m * up e
      rest = rw (whole_part m e n most small is few) (div-add-mod' (m * up e) (down e))

      finite-under : m * up e * down d < k * up d * down e → n ≡ min (closest (m * up e) (down e)) most
      finite-under h = let c = near-under (m * up e) (down e) n (m * up e % down e) (down_pos e) rest (mod-lt (m * up e) (down_pos e)) (under (m * up e) (down e) n (k * up d) (down d) v h) in omega arith

      finite-over : k * up d * down e < m * up e * down d → n + 1 ≡ min (closest (m * up e) (down e)) most
      finite-over h = let c = near-over (m * up e) (down e) n (m * up e % down e) (down_pos e) rest (mod-lt (m * up e) (down_pos e)) (over (m * up e) (down e) n (k * up d) (down d) v h) in omega arith

      finite-same : k * up d * down e ≤ m * up e * down d → m * up e * down d ≤ k * up d * down e → n + n % 2 ≡ min (closest (m * up e) (down e)) most
      finite-same g h = let c = near_same (m * up e) (down e) n (m * up e % down e) (down_pos e) rest (mod-lt (m * up e) (down_pos e)) (same (m * up e) (down e) n (k * up d) (down d) v (down_pos d) h g) in omega arith

    pub under-tie : (x y : Float) → n ≡ to_unsigned 64 x → lt x nought ≡ false → HasValue y false (2 * n + 1) 2 → lt x y ≡ true → n ≡ whole_size most x
    unfolding lt to_unsigned whole_size
    under-tie nan y is s v h = absurd (true≢false (sym h))
    under-tie (inf true) y is s v h = absurd (true≢false s)
    under-tie (inf false) y is s v h = omega arith
    under-tie (fin true m e) y is s v h = omega (arith, zero-size m e s)
    under-tie (fin false m e) nan is s v h = absurd v
    under-tie (fin false m e) (inf t) is s v h = absurd v
    under-tie (fin false m e) (fin true k d) is s v h = absurd (true≢false v.0)
    under-tie (fin false m e) (fin false k d) is s v h = finite-under m e k d is v.1 (ltb-true (m * up e * down d) (k * up d * down e) h)

    pub over-tie : (x y : Float) → n ≡ to_unsigned 64 x → HasValue y false (2 * n + 1) 2 → lt y x ≡ true → n + 1 ≡ whole_size most x
    unfolding lt to_unsigned whole_size
    over-tie x nan is v h = absurd v
    over-tie x (inf t) is v h = absurd v
    over-tie x (fin true k d) is v h = absurd (true≢false v.0)
    over-tie nan (fin false k d) is v h = absurd (true≢false (sym h))
    over-tie (inf true) (fin false k d) is v h = absurd (true≢false (sym h))
    over-tie (inf false) (fin false k d) is v h = omega arith
    over-tie (fin true m e) (fin false k d) is v h = absurd (true≢false (sym h))
    over-tie (fin false m e) (fin false k d) is v h = finite-over m e k d is v.1 (ltb-true (k * up d * down e) (m * up e * down d) h)

    pub at-tie : (x y : Float) → n ≡ to_unsigned 64 x → lt x nought ≡ false → HasValue y false (2 * n + 1) 2 → lt x y ≡ false → lt y x ≡ false → n + n % 2 ≡ whole_size most x
    unfolding lt to_unsigned whole_size
    at-tie nan y is s v g h = omega arith
    at-tie (inf true) y is s v g h = absurd (true≢false s)
    at-tie (inf false) y is s v g h = omega arith
    at-tie (fin true m e) y is s v g h = omega (arith, zero-size m e s)
    at-tie (fin false m e) nan is s v g h = absurd v
    at-tie (fin false m e) (inf t) is s v g h = absurd v
    at-tie (fin false m e) (fin true k d) is s v g h = absurd (true≢false v.0)
    at-tie (fin false m e) (fin false k d) is s v g h =
        finite-same m e k d is v.1 (ltb-false (m * up e * down d) (k * up d * down e) g) (ltb-false (k * up d * down e) (m * up e * down d) h)

-- ---- sizes
pub absolute-size : (x : Float) → lt (absolute x) nought ≡ false
unfolding lt absolute
absolute-size nan = refl
absolute-size (inf s) = refl
absolute-size (fin s m e) = le-ltb (m * up e * 1) (0 * down e) (omega arith)

pub whole-absolute : (most : ℕ) (x : Float) → whole_size most (absolute x) ≡ whole_size most x
unfolding absolute whole_size
whole-absolute most nan = refl
whole-absolute most (inf s) = refl
whole-absolute most (fin s m e) = refl

pub whole-most : (most : ℕ) (x : Float) → whole_size most x ≤ most
unfolding whole_size
whole-most most nan = omega arith
whole-most most (inf s) = omega arith
whole-most most (fin s m e) = omega arith

-- ---- the word that is written
module _ (y : Float) where
  pub below_zero : lt y nought ≡ true → (0x1_0000 - whole_size lowest (absolute y)) % 0x1_0000 ≡ word_of (to_whole y)
  unfolding to_whole
  below_zero h = rw (h, whole-absolute lowest y) (minus-word (whole_size lowest y) (le_trans (whole-most lowest y) (lit≤ tt)))

  pub not-below-zero : lt y nought ≡ false → whole_size highest y ≡ word_of (to_whole y)
  unfolding to_whole word_of
  not-below-zero h = rw h
