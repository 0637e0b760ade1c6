-- What `positive` and `subnormal` compute of a bit pattern, and that the root of what it stands for is what they make of that.
-- Assumes nothing.
use Rattle.std.proofs.Common.{◌≡◌, ℕ, zero, suc, ◌+◌, ◌-◌, ◌*◌, ◌/◌, ◌%◌, ◌^◌, ◌<◌, ◌≤◌, Bool, false, not, T, leb, ◌⊎◌, sym, ap, ◌∙◌, subst, inl, inr, le_trans, le_of_eq, lt_of_lt_of_le, mul-le-mul_right, mod-eq_of_lt, mul_assoc, eq-zero-or-pos, add_comm, mul-lt-mul_of_pos_right, mul-pos, lt_of_not-le, not-le_of_lt, arith, leb→le, pow_pos, pow_mono, pow-add}
use native.Mathlib.Nat.{pow-succ'}
use lib.Dec.{not_T}
use lib.Count.{count_leading_zeros, leading_top}
use lib.Ieee.{binary32, of_bits, nan_bits}
use lib.Ieee.Bits.{is_false}
use lib.Ieee.Exact.{HasValue}
use Rattle.rounding.specs.Steps.{significand}
use Rattle.rounding.proofs.Machine.{significand-none, significand-some}
use Rattle.rounding.proofs.Nan.{upto}
use Rattle.rounding.proofs.Nearby.{bits-finite}
use Rattle.rounding.proofs.Values.{bits-value}
use Rattle.root.specs.Root.{whole_root, root}
use Rattle.root.specs.Steps.{NearestWhole}
use Rattle.root.proofs.Squares.{Whole, whole-root, root-lt}
use Rattle.root.proofs.Sizes.{root-units}
use Rattle.root.proofs.Rounded.{rounded-root}

-- a pattern up to infinity's is no NaN's
pub number : (n : ℕ) → n ≤ 2139095040 → T (not (nan_bits binary32 n))
number n h = upto binary32 n (omega arith)

-- ---- what the code makes of 24 digits x, which is a significand moved up by t, and of its exponent k: n of 47 or 48 digits, in 64
pub record Steps (x k t o : ℕ) : Type 0 where
  pub t-most : t ≤ 23
  pub o-most : o ≤ 1
  pub shl-n : x * 2 ^ (23 + o) % 18446744073709551616 ≡ x * 2 ^ (23 + o)
  pub n-least : 70368744177664 ≤ x * 2 ^ (23 + o)
  pub n-most : x * 2 ^ (23 + o) < 281474976710656
  pub half : 2 * ((k + 126 - t - o) / 2) + t + o ≡ k + 126

moved_up : (x o : ℕ) → o ≤ 1 → 8388608 ≤ x → x < 16777216 → (70368744177664 ≤ x * 2 ^ (23 + o)) × (x * 2 ^ (23 + o) < 281474976710656)
moved_up x zero h a b = (omega arith, omega arith)
moved_up x (suc zero) h a b = (omega arith, omega arith)
moved_up x (suc (suc o)) h a b = absurd (omega arith)

steps : (x k t o : ℕ) → t ≤ 23 → o ≤ 1 → 8388608 ≤ x → x < 16777216 → 2 * ((k + 126 - t - o) / 2) + t + o ≡ k + 126 → Steps x k t o
steps x k t o t-most o-most least most half =
    let n = moved_up x o o-most least most in
    record {
      t-most = t-most;
      o-most = o-most;
      shl-n = mod-eq_of_lt (lt_of_lt_of_le n.1 (omega arith));
      n-least = n.0;
      n-most = n.1;
      half = half;
    }

-- with all its digits it stays where it is
pub steps-normal : (x k : ℕ) → 8388608 ≤ x → x < 16777216 → Steps x k 0 (k % 2)
steps-normal x k a b = steps x k 0 (k % 2) (omega arith) (omega arith) a b (omega arith)

-- with fewer it is moved up by its leading zeros
pub record Zeros (m z : ℕ) : Type 0 where
  pub least : 40 ≤ z
  pub most : z ≤ 63
  pub m-least : 8388608 ≤ m * 2 ^ (z - 40)
  pub m-most : m * 2 ^ (z - 40) < 16777216
  pub shl-m : m * 2 ^ (z - 40) % 18446744073709551616 ≡ m * 2 ^ (z - 40)

pub zeros : (m : ℕ) → 0 < m → m < 8388608 → Zeros m (count_leading_zeros 64 m)
zeros m a b = go (leading_top 64 m a (omega arith))
  where
    go : (j : ℕ) × (count_leading_zeros 64 m + suc j ≡ 64) × (2 ^ j ≤ m) × (m < 2 ^ suc j) → Zeros m (count_leading_zeros 64 m)
    go (j, e, lo, hi) =
        let j-lt : j < 24 = lt_of_not-le (λ (g : 24 ≤ j). not-le_of_lt (lt_of_lt_of_le b (omega arith)) (le_trans (pow_mono {i = 24} {j = j} g) lo)) in
        let t = count_leading_zeros 64 m - 40 in
        let x : j + t ≡ 23 = omega arith in
        let y : suc j + t ≡ 24 = omega arith in
        let s : 2 ^ j * 2 ^ t ≡ 2 ^ 23 = sym (pow-add 2 j t) ∙ ap (λ (x : ℕ). 2 ^ x) x in
        let s' : 2 ^ suc j * 2 ^ t ≡ 2 ^ 24 = sym (pow-add 2 (suc j) t) ∙ ap (λ (x : ℕ). 2 ^ x) y in
        let m-most : m * 2 ^ t < 16777216 = lt_of_lt_of_le (mul-lt-mul_of_pos_right hi (pow_pos t)) (le_of_eq s') in
        record {
          least = omega arith;
          most = omega arith;
          m-least = le_trans (le_of_eq (sym s)) (mul-le-mul_right (2 ^ t) lo);
          m-most = m-most;
          shl-m = mod-eq_of_lt (lt_of_lt_of_le m-most (omega arith));
        }

pub steps-subnormal : (m z : ℕ) → Zeros m z → Steps (m * 2 ^ (z - 40)) 0 (z - 40) ((z - 40) % 2)
steps-subnormal m z h = steps (m * 2 ^ (z - 40)) 0 (z - 40) ((z - 40) % 2) (omega arith) (omega arith) h.m-least h.m-most (omega arith)

pub q-most : (n q : ℕ) → NearestWhole n q → n < 281474976710656 → q ≤ 16777216
q-most n q near h = let l = root-lt (2 * q - 1) 33554432 (lt_of_lt_of_le near.above (omega arith)) in omega arith

-- ---- the root of what the pattern b of a finite value above zero stands for
module _ (b : ℕ) (some : 0 < b) (under : b < 2139095040) where
  m-pos : 0 < significand 8388608 b
  m-pos = go (eq-zero-or-pos (b / 8388608))
    where
      go : (b / 8388608 ≡ 0) ⊎ (0 < b / 8388608) → 0 < significand 8388608 b
      go (inl e) = omega (arith, significand-none 8388608 b e)
      go (inr h) = omega (arith, significand-some 8388608 b (λ (e : b / 8388608 ≡ 0). omega arith))

  value : HasValue (of_bits binary32 b) false (significand 8388608 b * 2 ^ (b / 8388608 - 1)) (2 ^ 149)
  value =
      subst (λ (s : Bool). HasValue (of_bits binary32 b) s (significand 8388608 b * 2 ^ (b / 8388608 - 1)) (2 ^ 149))
      (is_false (leb 2147483648 b) (not_T (leb 2147483648 b) (λ (t : T (leb 2147483648 b)). not-le_of_lt no_sign (leb→le 2147483648 b t))))
      (subst (λ (x : ℕ). HasValue (of_bits binary32 b) (leb 2147483648 b) (significand 8388608 x * 2 ^ (x / 8388608 - 1)) (2 ^ 149)) (mod-eq_of_lt no_sign) (bits-value binary32 b (bits-finite binary32 b (omega arith))))
    where
      no_sign : b < 2147483648
      no_sign = omega arith

  powers : (m k t s e : ℕ) → k + 151 ≡ t + s + (suc e + suc e) → m * 2 ^ k * 2 ^ 151 ≡ m * 2 ^ t * 2 ^ s * (2 * 2 ^ e * (2 * 2 ^ e))
  powers m k t s e h =
      mul_assoc m (2 ^ k) (2 ^ 151)
      ∙ ap (λ (x : ℕ). m * x) (sym (pow-add 2 k 151) ∙ ap (λ (x : ℕ). 2 ^ x) h ∙ pow-add 2 (t + s) (suc e + suc e) ∙ ap (λ (x : ℕ). x * 2 ^ (suc e + suc e)) (pow-add 2 t s) ∙ ap (λ (x : ℕ). 2 ^ t * 2 ^ s * x) (pow-add 2 (suc e) (suc e) ∙ ap (λ (x : ℕ). x * x) (pow-succ' 2 e)))
      ∙ go (2 ^ t) (2 ^ s) (2 * 2 ^ e * (2 * 2 ^ e))
    where
      go : (x y z : ℕ) → m * (x * y * z) ≡ m * x * y * z
      go x y z = simp (mul_assoc)

  pub root-pattern : (m k t o x q : ℕ) → m ≡ significand 8388608 b → k ≡ b / 8388608 - 1 → x ≡ m * 2 ^ t → Steps x k t o → NearestWhole (x * 2 ^ (23 + o)) q
      → of_bits binary32 ((k + 126 - t - o) / 2 * 8388608 + q) ≡ root binary32 (of_bits binary32 b)
  root-pattern m k t o x q m-is k-is x-is s near =
      let e = (k + 126 - t - o) / 2 in
      let n = x * 2 ^ (23 + o) in
      let a = m * 2 ^ k in
      let sum : 2 * e + t + o ≡ k + 126 = s.half in
      let same : a * 2 ^ 151 ≡ n * (2 * 2 ^ e * (2 * 2 ^ e)) = powers m k t (23 + o) e (placed k t o e sum) ∙ ap (λ (z : ℕ). z * 2 ^ (23 + o) * (2 * 2 ^ e * (2 * 2 ^ e))) (sym x-is) in
      let w : Whole (n * (2 * 2 ^ e * (2 * 2 ^ e))) (whole_root (a * 2 ^ 151)) = subst (λ (x : ℕ). Whole x (whole_root (a * 2 ^ 151))) same (whole-root (a * 2 ^ 151)) in
      let v : HasValue (of_bits binary32 b) false a (2 ^ 149) = rw (m-is, k-is) value in
      let p : 0 < m = rw m-is m-pos in
      sym
      (root-units binary32 (of_bits binary32 b) a v (mul-pos p (pow_pos k))
      ∙ rounded-root binary32 n q e (whole_root (a * 2 ^ 151)) w near s.n-least s.n-most (within k t o e q sum (omega arith) (q-most n q near s.n-most)))
    where
      placed : (k t o e : ℕ) → 2 * e + t + o ≡ k + 126 → k + 151 ≡ t + (23 + o) + (suc e + suc e)
      placed k t o e h = omega arith

      within : (k t o e q : ℕ) → 2 * e + t + o ≡ k + 126 → k ≤ 254 → q ≤ 16777216 → e * 8388608 + q ≤ 2139095040
      within k t o e q h a b = omega arith

-- a subnormal value's pattern is its significand; another's has the leading digit put back
pub significand-own : (b : ℕ) → b < 8388608 → b ≡ significand 8388608 b
significand-own b h = sym (significand-none 8388608 b (omega arith) ∙ mod-eq_of_lt h)

pub significand-all : (b : ℕ) → 8388608 ≤ b → b % 8388608 + 8388608 ≡ significand 8388608 b
significand-all b h = add_comm (b % 8388608) 8388608 ∙ sym (significand-some 8388608 b (λ (e : b / 8388608 ≡ 0). omega arith))
