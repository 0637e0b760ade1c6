-- What the shared steps compute on a machine's numbers of 64 or 128 digits is what `specs/Steps.antt` says. Assumes nothing.
use mathlib.Core.Path.{◌≡◌, refl, sym, ap, ◌∙◌, subst}
use mathlib.Core.Logic.{inl, inr}
use Prim.Native.Nat.{ℕ, zero, suc, ◌+◌, ◌-◌, ◌*◌, ◌/◌, ◌%◌, ◌^◌, ◌≤◌, ◌<◌, compare}
use native.Mathlib.Nat.{add-mul, mul-lt-mul_of_pos_right, div-lt_iff_lt-mul, le_trans, le_of_eq, lt_of_lt_of_le, lt_of_not-le, not-le_of_lt, mul_assoc, one-mul, suc-mul, mul-le-mul_right, mod-lt, mul-add-div_right, mod-eq_of_lt, div-eq_of_lt, div-add-mod', pow-succ', eq-zero-or-pos}
use native.Mathlib.Omega.{arith}
use mathlib.Core.Bool.{Bool, cond}
use lib.Dec.{T, eqb, eqb→eq, not_T}
use lib.Arith.{digits_div, digits_mod}
use lib.Pow.{pow_pos, pow_mono, pow-add, pow-lt, shr_lt, shl_lt}
use lib.Count.{count_leading_zeros, leading_top, leading_unique, leading_le}
use lib.Ieee.Fits.{nearest-le}
use lib.Ieee.Bits.{is_false}
use lib.Ieee.Nearest.{closest}
use Rattle.rounding.specs.Steps.{Sticky, stick, significand, pattern}
use Rattle.rounding.proofs.Closest.{le-or-lt, closest-down, closest-tie, closest-up}
use Rattle.rounding.proofs.Fused.{stick-is, stick-whole, scaled}
use Rattle.rounding.proofs.Pattern.{nothing_left}

-- ---- 1 << k in w digits
pub one_shl : (w k : ℕ) → k < w → 1 * 2 ^ k % 2 ^ w ≡ 2 ^ k
one_shl w k h = ap (λ (x : ℕ). x % 2 ^ w) (one-mul (2 ^ k)) ∙ mod-eq_of_lt (pow-lt h)

pub under_pow : (w a s : ℕ) → a < 2 ^ w → w ≤ s → a < 2 ^ s
under_pow w a s h k = lt_of_lt_of_le h (pow_mono {i = w} {j = s} k)

-- ---- `significand`
pub significand-none : (h b : ℕ) → b / h ≡ 0 → significand h b ≡ b % h
unfolding significand
significand-none h b e = ap (λ (x : ℕ). cond (eqb x 0) (b % h) (h + b % h)) e

pub significand-some : (h b : ℕ) → (b / h ≡ 0 → ⊥) → significand h b ≡ h + b % h
unfolding significand
significand-some h b n = ap (λ (x : Bool). cond x (b % h) (h + b % h)) (is_false (eqb (b / h) 0) (not_T (eqb (b / h) 0) (λ (t : T (eqb (b / h) 0)). n (eqb→eq (b / h) 0 t))))

-- a pattern that has no more digits than lie below the leading one
pub significand-far : (p b : ℕ) → b < 2 ^ 64 → 63 < p → significand (2 ^ p) b ≡ b
significand-far p b h k = let l = under_pow 64 b p h k in significand-none (2 ^ p) b (div-eq_of_lt l) ∙ mod-eq_of_lt l

-- ---- `stick`
pub stick-some : (a s : ℕ) → (a % 2 ^ s ≡ 0 → ⊥) → stick a s ≡ a / 2 ^ s + (1 - a / 2 ^ s % 2)
unfolding stick
stick-some a s n = ap (λ (x : Bool). cond x (a / 2 ^ s) (a / 2 ^ s + (1 - a / 2 ^ s % 2))) (is_false (eqb (a % 2 ^ s) 0) (not_T (eqb (a % 2 ^ s) 0) (λ (t : T (eqb (a % 2 ^ s) 0)). n (eqb→eq (a % 2 ^ s) 0 t))))

pub stick-none : (s : ℕ) → stick 0 s ≡ 0
stick-none s = stick-whole 0 s (mod-eq_of_lt (pow_pos s)) ∙ div-eq_of_lt (pow_pos s)

pub stick-far : (a s : ℕ) → a < 2 ^ s → (a ≡ 0 → ⊥) → stick a s ≡ 1
stick-far a s l n = stick-some a s (λ (e : a % 2 ^ s ≡ 0). n (sym (mod-eq_of_lt l) ∙ e)) ∙ ap (λ (x : ℕ). x + (1 - x % 2)) (div-eq_of_lt l)

-- ---- the nearest whole number, by one sum
nearest-digits : (n u h q r : ℕ) → 0 < h → u ≡ 2 * h → n ≡ q * u + r → r < u → (n + (h - 1) + q % 2) / u ≡ closest n u
nearest-digits n u h q r H U e l =
    let su : suc q * u ≡ q * u + u = suc-mul q u in
    elim (le-or-lt h r) [
      | inl a ↦
          elim (le-or-lt r h) [
            | inl b ↦ tie (q % 2) refl (omega arith)
            | inr b ↦
                ap (λ (x : ℕ). x / u) (omega arith) ∙ digits_div (suc q) {m = u} {r = r + (h - 1) + q % 2 - u} (omega arith) ∙ sym (closest-up n u q r e l (omega arith))
          ]
      | inr a ↦ ap (λ (x : ℕ). x / u) (omega arith) ∙ digits_div q {m = u} {r = r + (h - 1) + q % 2} (omega arith) ∙ sym (closest-down n u q r e (omega arith))
    ]
  where
    tie : (b : ℕ) → q % 2 ≡ b → r ≡ h → (n + (h - 1) + q % 2) / u ≡ closest n u
    tie zero z t = ap (λ (x : ℕ). x / u) (omega arith) ∙ digits_div q {m = u} {r = u - 1} (omega arith) ∙ omega arith ∙ sym (closest-tie n u q r e (omega arith) (omega arith))
    tie (suc b) z t =
        let su : suc q * u ≡ q * u + u = suc-mul q u in
        ap (λ (x : ℕ). x / u) (omega arith) ∙ digits_div (suc q) {m = u} {r = 0} (omega arith) ∙ omega arith ∙ sym (closest-tie n u q r e (omega arith) (omega arith))

pub nearest-sum : (n i : ℕ) → 1 ≤ i → (n + (2 ^ (i - 1) - 1) + n / 2 ^ i % 2) / 2 ^ i ≡ closest n (2 ^ i)
nearest-sum n i h = nearest-digits n (2 ^ i) (2 ^ (i - 1)) (n / 2 ^ i) (n % 2 ^ i) (pow_pos (i - 1)) (ap (λ (x : ℕ). 2 ^ x) (again i h) ∙ pow-succ' 2 (i - 1)) (sym (div-add-mod' n (2 ^ i))) (mod-lt n (pow_pos i))
  where
    again : (x : ℕ) → 1 ≤ x → x ≡ suc (x - 1)
    again x k = omega arith

-- the same, the whole part kept apart
pub nearest-is : (n i : ℕ) → 1 ≤ i → n / 2 ^ i + (n % 2 ^ i + (2 ^ (i - 1) - 1) + n / 2 ^ i % 2) / 2 ^ i ≡ closest n (2 ^ i)
nearest-is n i h =
    let q = n / 2 ^ i in
    let r = n % 2 ^ i in
    let n-is : n ≡ q * 2 ^ i + r = sym (div-add-mod' n (2 ^ i)) in
    sym (mul-add-div_right (pow_pos i) q (r + (2 ^ (i - 1) - 1) + q % 2)) ∙ ap (λ (x : ℕ). x / 2 ^ i) (omega arith) ∙ nearest-sum n i h

-- its terms fit a machine's number
pub record Halves (n i : ℕ) : Type 0 where
  pub whole : 1 * 2 ^ i % 18446744073709551616 ≡ 2 ^ i
  pub half : 1 * 2 ^ (i - 1) % 18446744073709551616 ≡ 2 ^ (i - 1)
  pub pos : 0 < 2 ^ (i - 1)
  pub twice : 2 ^ i ≡ 2 * 2 ^ (i - 1)
  pub most : 2 ^ i ≤ 9223372036854775808
  pub rest : n % 2 ^ i < 2 ^ i
  pub up : closest n (2 ^ i) ≤ 9223372036854775808

pub halves : (n i : ℕ) → n < 2 ^ 64 → 1 ≤ i → i ≤ 63 → Halves n i
halves n i h k l =
    let q : n / 2 ^ i < 2 ^ (64 - i) = shr_lt (64 - i) i (subst (λ (x : ℕ). n < 2 ^ x) (again 64 i (omega arith)) h) in
    let m : 2 ^ (64 - i) ≤ 2 ^ 63 = pow_mono {i = 64 - i} {j = 63} (omega arith) in
    let c : closest n (2 ^ i) ≤ suc (n / 2 ^ i) = nearest-le (n / 2 ^ i) (compare (n % 2 ^ i * 2) (2 ^ i)) in
    record {
      whole = one_shl 64 i (omega arith);
      half = one_shl 64 (i - 1) (omega arith);
      pos = pow_pos (i - 1);
      twice = ap (λ (x : ℕ). 2 ^ x) (back i k) ∙ pow-succ' 2 (i - 1);
      most = pow_mono {i = i} {j = 63} l;
      rest = mod-lt n (pow_pos i);
      up = omega arith;
    }
  where
    again : (x y : ℕ) → y ≤ x → x ≡ x - y + y
    again x y k = omega arith

    back : (x : ℕ) → 1 ≤ x → x ≡ suc (x - 1)
    back x k = omega arith

-- n / 2 ^ i where n has 64 digits and i is 64 or more
pub nearest-own : (n : ℕ) → closest n 1 ≡ n
nearest-own n = closest-down n 1 n 0 (omega arith) (omega arith)

pub nearest-none : (n i : ℕ) → n < 2 ^ 64 → 63 < i → (i ≡ 64 → n ≤ 2 ^ 63) → closest n (2 ^ i) ≡ 0
nearest-none n i h k t =
    elim (le-or-lt i 64) [
      | inl a ↦
          let e : i ≡ 64 = omega arith in
          let m : n ≤ 2 ^ 63 = t e in
          ap (λ (x : ℕ). closest n (2 ^ x)) e
          ∙ elim (le-or-lt (2 ^ 63) n) [
            | inl b ↦ closest-tie n (2 ^ 64) 0 n (omega arith) (omega arith) (omega arith)
            | inr b ↦ closest-down n (2 ^ 64) 0 n (omega arith) (omega arith)
          ]
      | inr a ↦
          let g : 2 ^ 65 ≤ 2 ^ i = pow_mono {i = 65} {j = i} (omega arith) in
          closest-down n (2 ^ i) 0 n (omega arith) (omega arith)
    ]

-- ---- `pattern`
pub pattern-normal : (n e spare d : ℕ) → d ≤ e + spare → pattern n e spare d ≡ (e + spare - d) * 2 ^ (62 - spare) + closest n (2 ^ spare)
unfolding pattern
pattern-normal n e spare d h = ap (λ (x : ℕ). (e + spare - d) * 2 ^ (62 - spare) + closest n (2 ^ x)) (omega arith)

pub pattern-small : (n e spare d : ℕ) → e + spare < d → pattern n e spare d ≡ closest n (2 ^ (d - e))
unfolding pattern
pattern-small n e spare d h =
    ap (λ (x : ℕ). (e + spare - d) * 2 ^ (62 - spare) + closest n (2 ^ x)) (omega arith)
    ∙ ap (λ (x : ℕ). x * 2 ^ (62 - spare) + closest n (2 ^ (d - e))) (none (e + spare) d h)
    ∙ zero-times (2 ^ (62 - spare)) (closest n (2 ^ (d - e)))
  where
    none : (x y : ℕ) → x < y → x - y ≡ 0
    none x y k = omega arith

    zero-times : (x y : ℕ) → 0 * x + y ≡ y
    zero-times x y = omega arith

pub pattern-none : (n e spare d : ℕ) → n < 2 ^ 63 → e + spare < d → 63 < d - e → pattern n e spare d ≡ 0
pattern-none n e spare d l h k = pattern-small n e spare d h ∙ nothing_left n (d - e) l k

-- what is kept of a number of 63 digits
pub closest-most : (n spare : ℕ) → n < 2 ^ 63 → spare ≤ 62 → closest n (2 ^ spare) ≤ 2 ^ (63 - spare)
closest-most n spare h k = le_trans (nearest-le (n / 2 ^ spare) (compare (n % 2 ^ spare * 2) (2 ^ spare))) (shr_lt (63 - spare) spare (subst (λ (x : ℕ). n < 2 ^ x) (again spare k) h))
  where
    again : (x : ℕ) → x ≤ 62 → 63 ≡ 63 - x + x
    again x l = omega arith

-- ---- a number of j digits or fewer has the other zeros of its word before it
pub zeros-least : (w j n : ℕ) → 0 < n → n < 2 ^ j → j ≤ w → w ≤ count_leading_zeros w n + j
zeros-least w j n p h k =
    let t = leading_top w n p (lt_of_lt_of_le h (pow_mono {i = j} {j = w} k)) in
    let l : t.0 < j = lt_of_not-le (λ (g : j ≤ t.0). not-le_of_lt h (le_trans (pow_mono g) t.2)) in
    omega (arith, t.1)

-- ---- a number brought to k + 1 digits of a word of k + 2
module _ (k n : ℕ) (pos : 0 < n) (small : n < 2 ^ suc k) where
  lead : (j : ℕ) × (count_leading_zeros (2 + k) n + suc j ≡ 2 + k) × (2 ^ j ≤ n) × (n < 2 ^ suc j)
  lead = leading_top (2 + k) n pos (lt_of_lt_of_le small (pow_mono {i = suc k} {j = 2 + k} (omega arith)))

  pub zeros-ge : 1 ≤ count_leading_zeros (2 + k) n
  zeros-ge = let l = zeros-least (2 + k) (suc k) n pos small (omega arith) in omega arith

  pub zeros-le : count_leading_zeros (2 + k) n ≤ suc k
  zeros-le = let t = lead in omega (arith, t.1)

  pub grown-ge : 2 ^ k ≤ n * 2 ^ (count_leading_zeros (2 + k) n - 1)
  grown-ge =
      let t = lead in
      let g = zeros-ge in
      let e : t.0 + (count_leading_zeros (2 + k) n - 1) ≡ k = omega (arith, t.1) in
      le_trans (le_of_eq (ap (λ (x : ℕ). 2 ^ x) (sym e) ∙ pow-add 2 t.0 (count_leading_zeros (2 + k) n - 1))) (mul-le-mul_right (2 ^ (count_leading_zeros (2 + k) n - 1)) t.2)

  pub grown-lt : n * 2 ^ (count_leading_zeros (2 + k) n - 1) < 2 ^ suc k
  grown-lt =
      let t = lead in
      let g = zeros-ge in
      let e : suc t.0 + (count_leading_zeros (2 + k) n - 1) ≡ suc k = omega (arith, t.1) in
      subst (λ (x : ℕ). n * 2 ^ (count_leading_zeros (2 + k) n - 1) < 2 ^ x) e (shl_lt (suc t.0) (count_leading_zeros (2 + k) n - 1) t.3)

pub shifted_back : (n t e : ℕ) → t ≤ e → n * 2 ^ t * 2 ^ (e - t) ≡ n * 2 ^ e
shifted_back n t e h = mul_assoc n (2 ^ t) (2 ^ (e - t)) ∙ ap (λ (x : ℕ). n * x) (sym (pow-add 2 t (e - t)) ∙ ap (λ (x : ℕ). 2 ^ x) (again t e h))
  where
    again : (x y : ℕ) → x ≤ y → x + (y - x) ≡ y
    again x y k = omega arith

-- ---- a number of two words brought to 127 digits, and then cut to an odd one of 63
cut-bounds : (w : ℕ) → 2 ^ 126 ≤ w → w < 2 ^ 127 → (2 ^ 62 ≤ stick w 64) × (stick w 64 < 2 ^ 63)
cut-bounds w h k =
    let q = w / 2 ^ 64 in
    elim (eq-zero-or-pos (w % 2 ^ 64)) [
      | inl e ↦ rw (stick-whole w 64 e) (omega arith, omega arith)
      | inr p ↦ rw (stick-some w 64 (λ (e : w % 2 ^ 64 ≡ 0). omega arith)) (omega arith, omega arith)
    ]

cut-sticky : (n t e : ℕ) → t ≤ e → Sticky (stick (n * 2 ^ t) 64) (n * 2 ^ e) (2 ^ (e + 64 - t))
cut-sticky n t e h =
    subst (λ (x : ℕ). Sticky (stick (n * 2 ^ t) 64) x (2 ^ (e + 64 - t))) (shifted_back n t e h)
    (subst (λ (x : ℕ). Sticky (stick (n * 2 ^ t) 64) (n * 2 ^ t * 2 ^ (e - t)) x) (sym (pow-add 2 64 (e - t)) ∙ ap (λ (x : ℕ). 2 ^ x) (again t e h))
    (scaled (stick (n * 2 ^ t) 64) (n * 2 ^ t) (2 ^ 64) (2 ^ (e - t)) (pow_pos (e - t)) (stick-is (n * 2 ^ t) 64)))
  where
    again : (x y : ℕ) → x ≤ y → 64 + (y - x) ≡ y + 64 - x
    again x y k = omega arith

pub cut : (n e m : ℕ) → 0 < n → n < 2 ^ 127 → 126 ≤ e → m ≡ stick (n * 2 ^ (count_leading_zeros 128 n - 1) % 2 ^ 128) 64
    → (2 ^ 62 ≤ m) × (m < 2 ^ 63) × Sticky m (n * 2 ^ e) (2 ^ (e + 64 - (count_leading_zeros 128 n - 1)))
cut n e m p h l is =
    let t = count_leading_zeros 128 n - 1 in
    let g = grown-ge 126 n p h in
    let k = grown-lt 126 n p h in
    let z = zeros-le 126 n p h in
    let whole : n * 2 ^ t % 2 ^ 128 ≡ n * 2 ^ t = mod-eq_of_lt (omega arith) in
    let b = cut-bounds (n * 2 ^ t) g k in
    rw (is, whole) (b.0, b.1, cut-sticky n t e (omega arith))

-- the zeros before a number of two words are those of its upper word
pub zeros-upper : (v : ℕ) → 0 < v / 2 ^ 64 → v < 2 ^ 128 → count_leading_zeros 64 (v / 2 ^ 64) ≡ count_leading_zeros 128 v
zeros-upper v p h = let t = leading_top 64 (v / 2 ^ 64) p (omega arith) in go t.0 (count_leading_zeros 64 (v / 2 ^ 64)) t.1 t.2 t.3
  where
    go : (j z : ℕ) → z + suc j ≡ 64 → 2 ^ j ≤ v / 2 ^ 64 → v / 2 ^ 64 < 2 ^ suc j → z ≡ count_leading_zeros 128 v
    go j z e a b =
        let s : 2 ^ (suc j + 64) ≡ 2 ^ suc j * 2 ^ 64 = pow-add 2 (suc j) 64 in
        let d : 2 ^ suc j ≡ 2 * 2 ^ j = pow-succ' 2 j in
        leading_unique 128 v z (suc j + 64) (omega arith) (omega arith) (omega arith)

-- the zeros of a number that has two words, less 1
pub record Upper (n t : ℕ) : Type 0 where
  pub least : 1 ≤ t
  pub most : t ≤ 63
  pub inside : t % 64 ≡ t
  pub same : t ≡ count_leading_zeros 128 n - 1

pub upper : (n : ℕ) → 2 ^ 64 ≤ n → n < 2 ^ 126 → (1 ≤ count_leading_zeros 64 (n / 2 ^ 64)) × Upper n (count_leading_zeros 64 (n / 2 ^ 64) - 1)
upper n h k =
    let e = zeros-upper n (omega arith) (omega arith) in
    let l = zeros-least 128 126 n (omega arith) k (omega arith) in
    let m = leading_le 64 (n / 2 ^ 64) in
    (omega arith, record { least = omega arith; most = omega arith; inside = mod-eq_of_lt (omega arith); same = ap (λ (x : ℕ). x - 1) e })

pub cut-upper : (n e t m : ℕ) → Upper n t → 2 ^ 64 ≤ n → n < 2 ^ 126 → 126 ≤ e → m ≡ stick (n * 2 ^ (t % 64) % 2 ^ 128) 64
    → (2 ^ 62 ≤ m) × (m < 2 ^ 63) × Sticky m (n * 2 ^ e) (2 ^ (e + 64 - t))
cut-upper n e t m u h k l is =
    let c = cut n e m (omega arith) (omega arith) l (is ∙ ap (λ (x : ℕ). stick (n * 2 ^ x % 2 ^ 128) 64) (u.inside ∙ u.same)) in
    (c.0, c.1, subst (λ (x : ℕ). Sticky m (n * 2 ^ e) (2 ^ (e + 64 - x))) (sym u.same) c.2)

-- ---- q moved to the left by 64 - t places
module _ (q t : ℕ) (k : t ≤ 64) where
  base : 2 ^ t * 2 ^ (64 - t) ≡ 18446744073709551616
  base = sym (pow-add 2 t (64 - t)) ∙ ap (λ (x : ℕ). 2 ^ x) (again t k)
    where
      again : (x : ℕ) → x ≤ 64 → x + (64 - x) ≡ 64
      again x l = omega arith

  moved : q / 2 ^ t * 18446744073709551616 + q % 2 ^ t * 2 ^ (64 - t) ≡ q * 2 ^ (64 - t)
  moved =
      let a : q / 2 ^ t * 2 ^ t * 2 ^ (64 - t) ≡ q / 2 ^ t * 18446744073709551616 = mul_assoc (q / 2 ^ t) (2 ^ t) (2 ^ (64 - t)) ∙ ap (λ (x : ℕ). q / 2 ^ t * x) base in
      let b : (q / 2 ^ t * 2 ^ t + q % 2 ^ t) * 2 ^ (64 - t) ≡ q / 2 ^ t * 2 ^ t * 2 ^ (64 - t) + q % 2 ^ t * 2 ^ (64 - t) = add-mul (q / 2 ^ t * 2 ^ t) (q % 2 ^ t) (2 ^ (64 - t)) in
      let c : (q / 2 ^ t * 2 ^ t + q % 2 ^ t) * 2 ^ (64 - t) ≡ q * 2 ^ (64 - t) = ap (λ (x : ℕ). x * 2 ^ (64 - t)) (div-add-mod' q (2 ^ t)) in
      omega arith

  -- what a machine's shift leaves
  pub left_over : q * 2 ^ (64 - t) % 18446744073709551616 ≡ q % 2 ^ t * 2 ^ (64 - t)
  left_over =
      ap (λ (x : ℕ). x % 18446744073709551616) (sym moved)
      ∙ digits_mod (q / 2 ^ t) {m = 18446744073709551616} {r = q % 2 ^ t * 2 ^ (64 - t)}
      (subst (λ (x : ℕ). q % 2 ^ t * 2 ^ (64 - t) < x) base (mul-lt-mul_of_pos_right (mod-lt q (pow_pos t)) (pow_pos (64 - t))))

  pub placed-is : q / 2 ^ t * 18446744073709551616 + q * 2 ^ (64 - t) % 18446744073709551616 ≡ q * 2 ^ (64 - t)
  placed-is = ap (λ (x : ℕ). q / 2 ^ t * 18446744073709551616 + x) left_over ∙ moved

pub placed-lt : (q t : ℕ) → 3 ≤ t → q < 18446744073709551616 → q / 2 ^ t < 2305843009213693952
placed-lt q t k h = (div-lt_iff_lt-mul (pow_pos t)).1 (lt_of_lt_of_le h (le_trans (pow_mono {i = 64} {j = 61 + t} (omega arith)) (le_of_eq (pow-add 2 61 t))))
