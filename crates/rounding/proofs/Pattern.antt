-- The bit pattern that `round` gives: k * hid + q, for the q that is kept and the k digits that are dropped, and the infinity's where that is past it. Assumes nothing.
use mathlib.Core.Path.{◌≡◌, refl, sym, ap, ◌∙◌, subst}
use mathlib.Core.Logic.{inl, inr}
use Prim.Native.Nat.{ℕ, zero, suc, ◌+◌, ◌-◌, ◌*◌, ◌/◌, ◌%◌, ◌^◌, ◌≤◌, ◌<◌, min, max, compare}
use native.Mathlib.Nat.{le_refl, le_trans, le_of_eq, eq-or-lt_of_le, lt_of_lt_of_le, lt_of_le_of_lt, lt_of_not-le, not-le_of_lt, le_of_suc-le-suc, mul_comm, add_assoc, add-mul, suc-mul, mul_assoc, mul_left_comm, mul-le-mul_right, le_of_mul-le-mul_right, mul-pos, mul-div_cancel, div-div-eq-div-mul, div-lt_iff_lt-mul, le-div_iff_mul-le, one-mul, pow-succ'}
use native.Mathlib.Omega.{arith}
use mathlib.Core.Bool.{Bool, true, false, cond}
use lib.Dec.{T, ltb, ltb→lt}
use lib.Pow.{pow-add, pow_pos, pow_mono, pow-lt, shl_lt}
use lib.Ieee.{Float, nan, inf, fin, Format, binary32, binary64, prec, emax, low, hid, ones, top, up, down, size, units, round, to_bits, of_bits, odd}
use lib.Ieee.Digits.{size-lt, size-le, size_reaches}
use lib.Ieee.Fits.{round-fits, nearest-le, kept-lt, two, two-le_pos, down_pos}
use lib.Ieee.Exact.{HasValue, units_val}
use lib.Ieee.Bits.{of_bits-to_bits}
use lib.Ieee.Nearest.{closest, closest_same, nearest-ge}
use Rattle.rounding.specs.Steps.{pattern}
use Rattle.rounding.proofs.Closest.{le-or-lt, closest-down}
use Rattle.rounding.proofs.Round.{dropped, round-units}

pub size-gt : (n j : ℕ) → 2 ^ j ≤ n → j < size n
size-gt n j h = lt_of_not-le (λ (g : size n ≤ j). not-le_of_lt (lt_of_lt_of_le (size-lt n) (pow_mono g)) h)

twice_hid : (p : ℕ) → 0 < p → 2 ^ p ≡ 2 * 2 ^ (p - 1)
twice_hid p h = ap (λ (x : ℕ). 2 ^ x) (again p h) ∙ pow-succ' 2 (p - 1)
  where
    again : (x : ℕ) → 0 < x → x ≡ suc (x - 1)
    again x k = omega arith

-- ---- what `to_bits` makes of q * 2 ^ k units
abbrev written : ℕ → ℕ → ℕ
written p n = (size n - p) * 2 ^ (p - 1) + n / 2 ^ (size n - p)

-- the digits dropped are k, and what is kept is q
written_at : (p q k j r : ℕ) → size (q * 2 ^ k) - p ≡ j → q * 2 ^ k ≡ r * 2 ^ j → written p (q * 2 ^ k) ≡ j * 2 ^ (p - 1) + r
written_at p q k j r e g =
    ap (λ (x : ℕ). x * 2 ^ (p - 1) + q * 2 ^ k / 2 ^ x) e ∙ ap (λ (x : ℕ). j * 2 ^ (p - 1) + x) (ap (λ (x : ℕ). x / 2 ^ j) g ∙ mul-div_cancel r (pow_pos j))

written_below : (p q k : ℕ) → 0 < p → q < 2 ^ p → (0 < k → 2 ^ (p - 1) ≤ q) → written p (q * 2 ^ k) ≡ k * 2 ^ (p - 1) + q
written_below p q k P a b =
    let most : size (q * 2 ^ k) ≤ p + k = size-le (q * 2 ^ k) (p + k) (shl_lt p k a) in
    written_at p q k k q (go k refl most) refl
  where
    go : (j : ℕ) → j ≡ k → size (q * 2 ^ k) ≤ p + k → size (q * 2 ^ k) - p ≡ k
    go zero e m = omega arith
    go (suc j) e m =
        let k0 : 0 < k = omega arith in
        let l : p - 1 + k < size (q * 2 ^ k) = size-gt (q * 2 ^ k) (p - 1 + k) (le_trans (le_of_eq (pow-add 2 (p - 1) k)) (mul-le-mul_right (2 ^ k) (b k0))) in
        omega arith

written-at-top : (p k : ℕ) → 0 < p → written p (2 ^ p * 2 ^ k) ≡ k * 2 ^ (p - 1) + 2 ^ p
written-at-top p k P =
    let n-is : 2 ^ p * 2 ^ k ≡ 2 ^ (p + k) = sym (pow-add 2 p k) in
    let most : size (2 ^ p * 2 ^ k) ≤ suc (p + k) = size-le (2 ^ p * 2 ^ k) (suc (p + k)) (subst (λ (x : ℕ). x < 2 ^ suc (p + k)) (sym n-is) (pow-lt (le_refl (suc (p + k))))) in
    let least : p + k < size (2 ^ p * 2 ^ k) = size-gt (2 ^ p * 2 ^ k) (p + k) (le_of_eq (sym n-is)) in
    let h = 2 ^ (p - 1) in
    let t : 2 ^ p ≡ 2 * h = twice_hid p P in
    let s : suc k * h ≡ k * h + h = suc-mul k h in
    let g : 2 ^ p * 2 ^ k ≡ h * 2 ^ suc k = ap (λ (x : ℕ). x * 2 ^ k) t ∙ mul_assoc 2 h (2 ^ k) ∙ mul_left_comm 2 h (2 ^ k) ∙ ap (λ (x : ℕ). h * x) (sym (pow-succ' 2 k)) in
    written_at p (2 ^ p) k (suc k) h (omega arith) g ∙ omega arith

written_is : (p q k : ℕ) → 0 < p → q ≤ 2 ^ p → (0 < k → 2 ^ (p - 1) ≤ q) → written p (q * 2 ^ k) ≡ k * 2 ^ (p - 1) + q
written_is p q k P a b =
    elim (eq-or-lt_of_le a) [
      | inl e ↦ subst (λ (x : ℕ). written p (x * 2 ^ k) ≡ k * 2 ^ (p - 1) + x) (sym e) (written-at-top p k P)
      | inr l ↦ written_below p q k P l b
    ]

-- ---- where it is past the largest value
-- m is 2 * emax, so the overflow is at 2 ^ (m + p - 1) and the infinity's pattern is (m + 1) * h
pow_lt_back : (i p : ℕ) → 2 ^ i < 2 ^ p → i < p
pow_lt_back i p h = lt_of_not-le (λ (g : p ≤ i). not-le_of_lt h (pow_mono g))

pow_le_back : (i p : ℕ) → 2 ^ i ≤ 2 ^ p → i ≤ p
pow_le_back i p h = le_of_suc-le-suc (lt_of_not-le (λ (g : suc p ≤ i). not-le_of_lt (pow-lt g) h))

inside : (p m q k : ℕ) → 0 < p → 2 ≤ m → q ≤ 2 ^ p → (0 < k → 2 ^ (p - 1) ≤ q) → q * 2 ^ k < 2 ^ (m + (p - 1)) → k * 2 ^ (p - 1) + q ≤ (m + 1) * 2 ^ (p - 1)
inside p m q k P M a b l = go k refl
  where
    go : (j : ℕ) → j ≡ k → k * 2 ^ (p - 1) + q ≤ (m + 1) * 2 ^ (p - 1)
    go zero e =
        let t : 2 ^ p ≡ 2 * 2 ^ (p - 1) = twice_hid p P in
        let z : k * 2 ^ (p - 1) ≡ 0 * 2 ^ (p - 1) = ap (λ (x : ℕ). x * 2 ^ (p - 1)) (sym e) in
        let y : 2 * 2 ^ (p - 1) ≤ (m + 1) * 2 ^ (p - 1) = mul-le-mul_right (2 ^ (p - 1)) (omega arith) in
        omega arith
    go (suc j) e =
        let t : 2 ^ p ≡ 2 * 2 ^ (p - 1) = twice_hid p P in
        let low : 2 ^ (p - 1 + k) < 2 ^ (m + (p - 1)) = lt_of_le_of_lt (le_trans (le_of_eq (pow-add 2 (p - 1) k)) (mul-le-mul_right (2 ^ k) (b (omega arith)))) l in
        let k_lt : k < m = omega (arith, pow_lt_back (p - 1 + k) (m + (p - 1)) low) in
        let y : (k + 2) * 2 ^ (p - 1) ≤ (m + 1) * 2 ^ (p - 1) = mul-le-mul_right (2 ^ (p - 1)) (omega arith) in
        omega (arith, add-mul k 2 (2 ^ (p - 1)))

outside : (p m q k : ℕ) → 0 < p → 2 ≤ m → q ≤ 2 ^ p → (0 < k → 2 ^ (p - 1) ≤ q) → 2 ^ (m + (p - 1)) ≤ q * 2 ^ k → (m + 1) * 2 ^ (p - 1) ≤ k * 2 ^ (p - 1) + q
outside p m q k P M a b l =
    let up : 2 ^ (m + (p - 1)) ≤ 2 ^ (p + k) = le_trans l (le_trans (mul-le-mul_right (2 ^ k) a) (le_of_eq (sym (pow-add 2 p k)))) in
    let k-ge : m ≤ suc k = omega (arith, pow_le_back (m + (p - 1)) (p + k) up) in
    let h_le : 2 ^ (p - 1) ≤ q = b (omega arith) in
    elim (le-or-lt m k) [
      | inl g ↦ let y : (m + 1) * 2 ^ (p - 1) ≤ (k + 1) * 2 ^ (p - 1) = mul-le-mul_right (2 ^ (p - 1)) (omega arith) in omega (arith, add-mul k 1 (2 ^ (p - 1)), one-mul (2 ^ (p - 1)))
      | inr g ↦
          let e : m + (p - 1) ≡ p + k = omega arith in
          let z : 2 ^ p * 2 ^ k ≤ q * 2 ^ k = le_trans (le_of_eq (sym (pow-add 2 p k) ∙ ap (λ (x : ℕ). 2 ^ x) (sym e))) l in
          let q-ge : 2 ^ p ≤ q = le_of_mul-le-mul_right z (pow_pos k) in
          let t : 2 ^ p ≡ 2 * 2 ^ (p - 1) = twice_hid p P in
          let y : (m + 1) * 2 ^ (p - 1) ≤ (k + 2) * 2 ^ (p - 1) = mul-le-mul_right (2 ^ (p - 1)) (omega arith) in
          omega (arith, add-mul k 2 (2 ^ (p - 1)))
    ]

-- ---- the pattern of `units`
-- the numbers of a format, as `inside` and `outside` have them
overflow-at : (f : Format) → low f + suc (emax f) ≡ 2 * emax f + (prec f - 1)
overflow-at binary32 = refl
overflow-at binary64 = refl

twice-emax : (f : Format) → 2 ≤ 2 * emax f
twice-emax binary32 = omega arith
twice-emax binary64 = omega arith

to_bits-of : (f : Format) (s : Bool) (v : Float) (n : ℕ) → HasValue v s n (2 ^ low f) → to_bits f v ≡ cond s (top f) 0 + written (prec f) n
unfolding to_bits
to_bits-of f s nan n h = absurd h
to_bits-of f s (inf t) n h = absurd h
to_bits-of f s (fin t m e) n (a, b) =
    let c : m * up e * 2 ^ low f / down e ≡ n = ap (λ (x : ℕ). x / down e) b ∙ mul-div_cancel n (down_pos e) in
    ap (λ (x : ℕ). cond t (top f) 0 + (size x - prec f) * hid f + x / 2 ^ (size x - prec f)) c
    ∙ ap (λ (x : Bool). cond x (top f) 0 + (size n - prec f) * hid f + n / 2 ^ (size n - prec f)) a
    ∙ add_assoc (cond s (top f) 0) ((size n - prec f) * hid f) (n / 2 ^ (size n - prec f))

to_bits_inf : (f : Format) (s : Bool) → to_bits f (inf s) ≡ cond s (top f) 0 + ones f * hid f
unfolding to_bits
to_bits_inf f s = refl

units-inf : (f : Format) (s : Bool) (q k : ℕ) → 2 ^ (low f + suc (emax f)) ≤ q * 2 ^ k → units f s q k ≡ inf s
unfolding units
units-inf f s q k h = go (ltb (q * 2 ^ k) (2 ^ (low f + suc (emax f)))) (ltb→lt (q * 2 ^ k) (2 ^ (low f + suc (emax f))))
  where
    go : (b : Bool) → (T b → q * 2 ^ k < 2 ^ (low f + suc (emax f))) → cond b (odd (suc (prec f)) s q k (low f)) (inf s) ≡ inf s
    go true l = absurd (not-le_of_lt (l tt) h)
    go false l = refl

min-l : (a b : ℕ) → a ≤ b → min a b ≡ a
min-l a b h = omega arith

min-r : (a b : ℕ) → b ≤ a → min a b ≡ b
min-r a b h = omega arith

pub units-bits : (f : Format) (s : Bool) (q k : ℕ) → q ≤ 2 ^ prec f → (0 < k → 2 ^ (prec f - 1) ≤ q)
    → to_bits f (units f s q k) ≡ cond s (top f) 0 + min (k * hid f + q) (ones f * hid f)
units-bits f s q k a b =
    let p = prec f in
    let P : 0 < p = two-le_pos p (two f) in
    let o = overflow-at f in
    elim (le-or-lt (2 ^ (low f + suc (emax f))) (q * 2 ^ k)) [
      | inl h ↦
          ap (λ (x : Float). to_bits f x) (units-inf f s q k h)
          ∙ to_bits_inf f s
          ∙ ap (λ (x : ℕ). cond s (top f) 0 + x)
          (sym (min-r (k * hid f + q) (ones f * hid f) (outside p (2 * emax f) q k P (twice-emax f) a b (subst (λ (x : ℕ). 2 ^ x ≤ q * 2 ^ k) o h))))
      | inr h ↦
          to_bits-of f s (units f s q k) (q * 2 ^ k) (units_val f s q k h)
          ∙ ap (λ (x : ℕ). cond s (top f) 0 + x)
          (written_is p q k P a b ∙ sym (min-l (k * hid f + q) (ones f * hid f) (inside p (2 * emax f) q k P (twice-emax f) a b (subst (λ (x : ℕ). q * 2 ^ k < 2 ^ x) o h))))
    ]

-- ---- the pattern of `round`
pub kept-le : (p a d : ℕ) → closest a (2 ^ d * 2 ^ (size (a / 2 ^ d) - p)) ≤ 2 ^ p
kept-le p a d =
    let u = 2 ^ d * 2 ^ (size (a / 2 ^ d) - p) in
    le_trans (nearest-le (a / u) (compare (a % u * 2) u)) (subst (λ (x : ℕ). x < 2 ^ p) (div-div-eq-div-mul a (2 ^ d) (2 ^ (size (a / 2 ^ d) - p))) (kept-lt p (a / 2 ^ d)))

pub kept-ge : (p a d : ℕ) → 0 < p → 0 < size (a / 2 ^ d) - p → 2 ^ (p - 1) ≤ closest a (2 ^ d * 2 ^ (size (a / 2 ^ d) - p))
kept-ge p a d P K =
    let w = a / 2 ^ d in
    let k = size w - p in
    let u = 2 ^ d * 2 ^ k in
    let l : 2 ^ (p - 1) * 2 ^ k ≤ w = le_trans (le_of_eq (sym (pow-add 2 (p - 1) k))) (size_reaches w (p - 1 + k) (omega arith)) in
    le_trans (subst (λ (x : ℕ). 2 ^ (p - 1) ≤ x) (div-div-eq-div-mul a (2 ^ d) (2 ^ k)) ((le-div_iff_mul-le (pow_pos k)).1 l)) (nearest-ge (a / u) (compare (a % u * 2) u))

pub round-bits : (f : Format) (s : Bool) (a d : ℕ)
    → round f s a (2 ^ (d + low f)) ≡ of_bits f (cond s (top f) 0 + min (dropped f a d * hid f + closest a (2 ^ d * 2 ^ dropped f a d)) (ones f * hid f))
unfolding dropped
round-bits f s a d =
    let k = size (a / 2 ^ d) - prec f in
    let q = closest a (2 ^ d * 2 ^ k) in
    sym (of_bits-to_bits f (round f s a (2 ^ (d + low f))) (round-fits f s a (2 ^ (d + low f))))
    ∙ ap (λ (x : Float). of_bits f (to_bits f x)) (round-units f s a d)
    ∙ ap (λ (x : ℕ). of_bits f x) (units-bits f s q k (kept-le (prec f) a d) (kept-ge (prec f) a d (two-le_pos (prec f) (two f))))

-- ---- at a number of 63 digits
size-63 : (n e d : ℕ) → 2 ^ 62 ≤ n → n < 2 ^ 63 → size (n * 2 ^ e / 2 ^ d) ≡ 63 + e - d
size-63 n e d a b =
    let top : n * 2 ^ e < 2 ^ (63 + e) = shl_lt 63 e b in
    let bottom : 2 ^ (62 + e) ≤ n * 2 ^ e = le_trans (le_of_eq (pow-add 2 62 e)) (mul-le-mul_right (2 ^ e) a) in
    let z = 63 + e - d in
    let most : size (n * 2 ^ e / 2 ^ d) ≤ z = size-le (n * 2 ^ e / 2 ^ d) z
    ((div-lt_iff_lt-mul (pow_pos d)).1 (lt_of_lt_of_le top (le_trans (pow_mono {i = 63 + e} {j = z + d} (omega arith)) (le_of_eq (pow-add 2 z d))))) in
    elim (le-or-lt d (62 + e)) [
      | inl h ↦
          let w = 62 + e - d in
          let least : w < size (n * 2 ^ e / 2 ^ d) = size-gt (n * 2 ^ e / 2 ^ d) w
          ((le-div_iff_mul-le (pow_pos d)).1 (le_trans (le_of_eq (sym (pow-add 2 w d) ∙ ap (λ (x : ℕ). 2 ^ x) (again d (62 + e) h))) bottom)) in
          omega arith
      | inr h ↦ omega arith
    ]
  where
    again : (x y : ℕ) → x ≤ y → y - x + x ≡ y
    again x y g = omega arith

moved : (n e d k i : ℕ) → d + k ≡ i + e → closest (n * 2 ^ e) (2 ^ d * 2 ^ k) ≡ closest n (2 ^ i)
moved n e d k i h =
    ap (λ (x : ℕ). closest (n * 2 ^ e) x) (sym (pow-add 2 d k) ∙ ap (λ (x : ℕ). 2 ^ x) h ∙ pow-add 2 i e)
    ∙ closest_same (n * 2 ^ e) (2 ^ i * 2 ^ e) n (2 ^ i) (mul-pos (pow_pos i) (pow_pos e)) (pow_pos i) (mul_assoc n (2 ^ e) (2 ^ i) ∙ ap (λ (x : ℕ). n * x) (mul_comm (2 ^ e) (2 ^ i)))

most-prec : (f : Format) → prec f ≤ 62
most-prec binary32 = omega arith
most-prec binary64 = omega arith

pub round-63 : (f : Format) (s : Bool) (n e d : ℕ) → 2 ^ 62 ≤ n → n < 2 ^ 63
    → round f s (n * 2 ^ e) (2 ^ (d + low f)) ≡ of_bits f (cond s (top f) 0 + min (pattern n e (63 - prec f) d) (ones f * hid f))
unfolding dropped pattern
round-63 f s n e d a b =
    let p = prec f in
    let m = most-prec f in
    let P : 0 < p = two-le_pos p (two f) in
    let k-is : dropped f (n * 2 ^ e) d ≡ e + (63 - p) - d = ap (λ (x : ℕ). x - p) (size-63 n e d a b) ∙ omega arith in
    let k = e + (63 - p) - d in
    let i = max (63 - p) (d - e) in
    round-bits f s (n * 2 ^ e) d
    ∙ ap (λ (x : ℕ). of_bits f (cond s (top f) 0 + min (x * hid f + closest (n * 2 ^ e) (2 ^ d * 2 ^ x)) (ones f * hid f))) k-is
    ∙ ap (λ (x : ℕ). of_bits f (cond s (top f) 0 + min (k * hid f + x) (ones f * hid f))) (moved n e d k i (omega arith))
    ∙ ap (λ (x : ℕ). of_bits f (cond s (top f) 0 + min (k * 2 ^ x + closest n (2 ^ i)) (ones f * hid f))) (same_place p m)
  where
    same_place : (x : ℕ) → x ≤ 62 → x - 1 ≡ 62 - (63 - x)
    same_place x h = omega arith

-- past 63 places nothing is left
pub nothing_left : (n i : ℕ) → n < 2 ^ 63 → 63 < i → closest n (2 ^ i) ≡ 0
nothing_left n i a h =
    closest-down n (2 ^ i) 0 n (sym (zero-plus (2 ^ i) n)) (lt_of_lt_of_le (twice n a) (pow_mono h))
  where
    twice : (x : ℕ) → x < 2 ^ 63 → x * 2 < 2 ^ 64
    twice x l = omega arith

    zero-plus : (x y : ℕ) → 0 * x + y ≡ y
    zero-plus x y = omega arith
