-- `snap p n d`: the fraction n / d rounded to a number of at most p digits and then zeros, a tie to the even one. `round` does this with its fraction in units of the format's smallest value.
-- `Rep p m`: m is such a number. snap keeps the order, keeps what is such a number, and is off by half a step at most. Nothing here is about floats. Assumes nothing.
use mathlib.Core.Path.{◌≡◌, refl, sym, ap, ◌∙◌, subst}
use mathlib.Core.Logic.{inl, inr}
use Prim.Native.Nat.compare
use Prim.Native.Nat.{ℕ, zero, suc, ◌+◌, ◌-◌, ◌*◌, ◌/◌, ◌%◌, ◌^◌, ◌≤◌, ◌<◌, zero-le, compare, Ordering}
use native.Mathlib.Nat.{le_trans, le_of_eq, le_of_lt, le_antisymm, lt_irrefl, lt_of_lt_of_le, lt_of_le_of_lt, lt_of_not-le, not-le_of_lt, eq-or-lt_of_le, mul-one, one-mul, zero-mul, mul_comm, mul_assoc, mul_left_comm, mul-le-mul_right, mul-le-mul_left, mul-pos, mul-lt-mul_of_pos_right, mul-mod_left, mul-div_cancel, mod-lt, div-add-mod', le-div_iff_mul-le, div-lt_iff_lt-mul, div-div-eq-div-mul, lt_of_mul-lt-mul_right}
use native.Mathlib.Omega.{arith}
use lib.Pow.{pow-add, pow_pos, pow_mono, shl_lt}
use lib.Ieee.{nearest, size}
use lib.Ieee.Digits.{size-lt, size-le, size_reaches}
use lib.Ieee.Fits.{nearest-le, kept-lt}
use lib.Ieee.Nearest.{closest, closest_mono, nearest-ge, div_mono}
use lib.Ieee.Order.{drop, kept}
use Rattle.rounding.proofs.Closest.{Cmp, cmp, le-or-lt}

unfoldable pub snap : ℕ → ℕ → ℕ → ℕ
snap p n d = kept p n d * 2 ^ drop p n d

pub record Rep (p n : ℕ) : Type 0 where
  pub digits : ℕ
  pub shift : ℕ
  pub few : digits < 2 ^ p
  pub is : n ≡ digits * 2 ^ shift

-- ---- the nearest whole number is off by a half at most
abbrev Half : ℕ → ℕ → ℕ → Type 0
Half w a b = (w * b * 2 ≤ a * 2 + b) × (a * 2 ≤ w * b * 2 + b)

parity : (q : ℕ) → q % 2 ≤ 1
parity q = omega arith

pub closest-half : (a b : ℕ) → 0 < b → Half (closest a b) a b
closest-half a b B = go (compare (a % b * 2) b) (cmp (a % b * 2) b)
  where
    e : a / b * b + a % b ≡ a
    e = div-add-mod' a b

    go : (o : Ordering) → Cmp o (a % b * 2) b → Half (nearest (a / b) o) a b
    go Ordering.lt c = omega (arith, e)
    go Ordering.eq c = omega (arith, e, mul-le-mul_right b (parity (a / b)))
    go Ordering.gt c = omega (arith, e, mod-lt a B)

-- ---- and a whole number stays
above_zero : (u : ℕ) → 0 < u → compare 0 u ≡ Ordering.lt
above_zero zero h = absurd (lt_irrefl 0 h)
above_zero (suc u) h = compare.zero-suc u

pub closest-exact : (r u : ℕ) → 0 < u → closest (r * u) u ≡ r
closest-exact r u h = rw (mul-div_cancel r h, mul-mod_left r u, above_zero u h)

-- ---- digits
size_mono : (a b : ℕ) → a ≤ b → size a ≤ size b
size_mono a b h = size-le a (size b) (lt_of_le_of_lt h (size-lt b))

size-gt : (n j : ℕ) → 2 ^ j ≤ n → j < size n
size-gt n j h = lt_of_not-le (λ (g : size n ≤ j). not-le_of_lt (lt_of_lt_of_le (size-lt n) (pow_mono g)) h)

pub kept-le : (p n d : ℕ) → kept p n d ≤ 2 ^ p
kept-le p n d =
    let u = d * 2 ^ drop p n d in
    le_trans (nearest-le (n / u) (compare (n % u * 2) u)) (rw (div-div-eq-div-mul n d (2 ^ drop p n d)) at (kept-lt p (n / d)))

all_in_use : (z p : ℕ) → 0 < p → 0 < z - p → p - 1 + (z - p) < z
all_in_use z p P h = omega arith

-- where digits are dropped, p others are in use
pub in_use : (p n d : ℕ) → 0 < p → 0 < drop p n d → 2 ^ (p - 1) * 2 ^ drop p n d ≤ n / d
in_use p n d P K = let k = drop p n d in rw (pow-add 2 (p - 1) k) at (size_reaches (n / d) (p - 1 + k) (all_in_use (size (n / d)) p P K))

pub kept-ge : (p n d : ℕ) → 0 < p → 0 < drop p n d → 2 ^ (p - 1) ≤ kept p n d
kept-ge p n d P K =
    let k = drop p n d in
    let u = d * 2 ^ k in
    le_trans (rw (div-div-eq-div-mul n d (2 ^ k)) at ((le-div_iff_mul-le (pow_pos k)).1 (in_use p n d P K))) (nearest-ge (n / u) (compare (n % u * 2) u))

-- ---- the order is kept
same_drop : (k a b c d : ℕ) → 0 < b → 0 < d → a * d ≤ c * b → closest a (b * 2 ^ k) * 2 ^ k ≤ closest c (d * 2 ^ k) * 2 ^ k
same_drop k a b c d B D h =
    mul-le-mul_right (2 ^ k) (closest_mono a (b * 2 ^ k) c (d * 2 ^ k) (mul-pos B (pow_pos k)) (mul-pos D (pow_pos k)) (omega (arith, mul-le-mul_right (2 ^ k) h)))

fewer : (x y p : ℕ) → x ≤ y → x - p ≤ y - p
fewer x y p h = omega arith

room : (p j k : ℕ) → 0 < p → j < k → p + j ≤ p - 1 + k
room p j k P h = omega arith

pub snap-mono : (p a b c d : ℕ) → 0 < p → 0 < b → 0 < d → a * d ≤ c * b → snap p a b ≤ snap p c d
unfolding snap
snap-mono p a b c d P B D h =
    let j = drop p a b in
    let k = drop p c d in
    elim (eq-or-lt_of_le (fewer (size (a / b)) (size (c / d)) p (size_mono (a / b) (c / d) (div_mono a b c d B D h)))) [
      | inl e ↦ subst (λ (x : ℕ). closest a (b * 2 ^ x) * 2 ^ x ≤ kept p c d * 2 ^ k) (sym e) (same_drop k a b c d B D h)
      | inr l ↦
          le_trans (mul-le-mul_right (2 ^ j) (kept-le p a b))
          (le_trans (le_of_eq (sym (pow-add 2 p j)))
          (le_trans (pow_mono (room p j k P l))
          (le_trans (le_of_eq (pow-add 2 (p - 1) k)) (mul-le-mul_right (2 ^ k) (kept-ge p c d P (lt_of_le_of_lt zero-le l))))))
    ]

pub snap-same : (p a b c d : ℕ) → 0 < p → 0 < b → 0 < d → a * d ≡ c * b → snap p a b ≡ snap p c d
snap-same p a b c d P B D e = le_antisymm (snap-mono p a b c d P B D (le_of_eq e)) (snap-mono p c d a b P D B (le_of_eq (sym e)))

-- ---- what has at most p digits stays
spare : (z p l : ℕ) → z ≤ p + l → z - p ≤ l
spare z p l h = omega arith

back : (a l : ℕ) → l ≤ a → a - l + l ≡ a
back a l h = omega arith

drop_le : (p n d j : ℕ) → 0 < d → n < 2 ^ (p + j) * d → drop p n d ≤ j
drop_le p n d j D h = spare (size (n / d)) p j (size-le (n / d) (p + j) ((div-lt_iff_lt-mul D).1 h))

pub pow-part : (j k : ℕ) → k ≤ j → 2 ^ (j - k) * 2 ^ k ≡ 2 ^ j
pow-part j k h = sym (pow-add 2 (j - k) k) ∙ ap (λ (x : ℕ). 2 ^ x) (back j k h)

pub snap-rep : (p m n d : ℕ) → Rep p m → 0 < d → n ≡ m * d → snap p n d ≡ m
unfolding snap
snap-rep p m n d r D e =
    let q = r.digits in
    let j = r.shift in
    let k = drop p n d in
    let is : m ≡ q * 2 ^ j = r.is in
    let small : n < 2 ^ (p + j) * d = subst (λ (x : ℕ). x < 2 ^ (p + j) * d) (sym (e ∙ ap (λ (x : ℕ). x * d) is)) (mul-lt-mul_of_pos_right (shl_lt p j r.few) D) in
    let w : 2 ^ (j - k) * 2 ^ k ≡ 2 ^ j = pow-part j k (drop_le p n d j D small) in
    let t = q * 2 ^ (j - k) in
    let v : n ≡ t * (d * 2 ^ k) = e ∙ simp (is, ← w, mul_assoc, mul_comm, mul_left_comm) in
    ap (λ (x : ℕ). closest x (d * 2 ^ k) * 2 ^ k) v ∙ ap (λ (x : ℕ). x * 2 ^ k) (closest-exact t (d * 2 ^ k) (mul-pos D (pow_pos k))) ∙ mul_assoc q (2 ^ (j - k)) (2 ^ k) ∙ ap (λ (x : ℕ). q * x) w ∙ sym is

pub snap-below : (p m n d : ℕ) → 0 < p → Rep p m → 0 < d → n ≤ m * d → snap p n d ≤ m
snap-below p m n d P r D h = le_trans (snap-mono p n d (m * d) d P D D (mul-le-mul_right d h)) (le_of_eq (snap-rep p m (m * d) d r D refl))

pub snap-above : (p m n d : ℕ) → 0 < p → Rep p m → 0 < d → m * d ≤ n → m ≤ snap p n d
snap-above p m n d P r D h = le_trans (le_of_eq (sym (snap-rep p m (m * d) d r D refl))) (snap-mono p (m * d) d n d P D D (mul-le-mul_right d h))

-- ---- numbers of at most p digits
pub rep-small : (p m : ℕ) → m < 2 ^ p → Rep p m
rep-small p m h = record { digits = m; shift = 0; few = h; is = sym (mul-one m) }

pub rep-scale : (p m t : ℕ) → Rep p m → Rep p (m * 2 ^ t)
rep-scale p m t r = record { digits = r.digits; shift = r.shift + t; few = r.few; is = ap (λ (x : ℕ). x * 2 ^ t) r.is ∙ mul_assoc r.digits (2 ^ r.shift) (2 ^ t) ∙ ap (λ (x : ℕ). r.digits * x) (sym (pow-add 2 r.shift t)) }

pub rep-pow : (p t : ℕ) → 0 < p → Rep p (2 ^ t)
rep-pow p t P = record { digits = 1; shift = t; few = le_trans (le_of_eq (sym (two p P))) (pow_mono P); is = sym (one-mul (2 ^ t)) }
  where
    two : (p : ℕ) → 0 < p → 2 ^ 1 ≡ 2
    two p P = refl

pub snap-is-rep : (p n d : ℕ) → 0 < p → Rep p (snap p n d)
unfolding snap
snap-is-rep p n d P = elim (eq-or-lt_of_le (kept-le p n d)) [
  | inl e ↦ subst (λ (x : ℕ). Rep p (x * 2 ^ drop p n d)) (sym e) (subst (λ (x : ℕ). Rep p x) (pow-add 2 p (drop p n d)) (rep-pow p (p + drop p n d) P))
  | inr l ↦ record { digits = kept p n d; shift = drop p n d; few = l; is = refl }
]

-- a multiple of each power of two up to its own
pub rep-part : (p m k : ℕ) (r : Rep p m) → k ≤ r.shift → m ≡ r.digits * 2 ^ (r.shift - k) * 2 ^ k
rep-part p m k r h = r.is ∙ ap (λ (x : ℕ). r.digits * x) (sym (pow-part r.shift k h)) ∙ sym (mul_assoc r.digits (2 ^ (r.shift - k)) (2 ^ k))

-- ---- below 2 ^ (p + j) a number of at most p digits leaves a step of 2 ^ j
pub rep-gap : (p m j : ℕ) → Rep p m → m < 2 ^ (p + j) → m + 2 ^ j ≤ 2 ^ p * 2 ^ j
rep-gap p m j r h = elim (le-or-lt r.shift j) [
  | inl g ↦ le_trans (omega (arith, r.is, mul-le-mul_left r.digits (pow_mono g))) (mul-le-mul_right (2 ^ j) r.few)
  | inr g ↦
      let t = r.digits * 2 ^ (r.shift - j) in
      let e : m ≡ t * 2 ^ j = rep-part p m j r (le_of_lt g) in
      let b : t < 2 ^ p = lt_of_mul-lt-mul_right (2 ^ j) (subst (λ (x : ℕ). x < 2 ^ p * 2 ^ j) e (rw (pow-add 2 p j) at h)) in
      le_trans (omega (arith, e)) (mul-le-mul_right (2 ^ j) b)
]

-- ---- off by half a step at most: by a step 2 ^ j, for a fraction below 2 ^ (p + j)
pub snap-err : (p n d j : ℕ) → 0 < d → n < 2 ^ (p + j) * d → (snap p n d * d * 2 ≤ n * 2 + d * 2 ^ j) × (n * 2 ≤ snap p n d * d * 2 + d * 2 ^ j)
unfolding snap
snap-err p n d j D h =
    let k = drop p n d in
    let u : d * 2 ^ k ≤ d * 2 ^ j = mul-le-mul_left d (pow_mono (drop_le p n d j D h)) in
    let c = closest-half n (d * 2 ^ k) (mul-pos D (pow_pos k)) in
    (omega (arith, c.0), omega (arith, c.1))

-- ---- off by one part in 2 ^ p at most, for a fraction of 2 ^ (p - 1) or more
enough : (z p : ℕ) → 0 < p → p - 1 < z → p - 1 + (z - p) < z
enough z p P h = omega arith

pub half_pow : (p : ℕ) → 0 < p → 2 ^ p ≡ 2 * 2 ^ (p - 1)
half_pow p P = sym (ap (λ (x : ℕ). 2 ^ x) (back p 1 P)) ∙ pow-add 2 (p - 1) 1 ∙ mul_comm (2 ^ (p - 1)) 2

pub snap-rel : (p n d : ℕ) → 0 < p → 0 < d → 2 ^ (p - 1) * d ≤ n → (snap p n d * d * 2 ^ p ≤ n * 2 ^ p + n) × (n * 2 ^ p ≤ snap p n d * d * 2 ^ p + n)
unfolding snap
snap-rel p n d P D h =
    let k = drop p n d in
    let H = 2 ^ (p - 1) in
    let z : 2 ^ (p - 1 + k) * d ≤ n = (le-div_iff_mul-le D).0 (size_reaches (n / d) (p - 1 + k) (enough (size (n / d)) p P (size-gt (n / d) (p - 1) ((le-div_iff_mul-le D).1 h)))) in
    let y : H * 2 ^ k * d ≤ n = rw (pow-add 2 (p - 1) k) at z in
    let c = closest-half n (d * 2 ^ k) (mul-pos D (pow_pos k)) in
    let e = half_pow p P in
    rw e (omega (arith, y, mul-le-mul_right H c.0), omega (arith, y, mul-le-mul_right H c.1))

pub snap-zero : (p n d : ℕ) → 0 < d → n ≡ 0 → snap p n d ≡ 0
snap-zero p n d D z = snap-rep p 0 n d (rep-small p 0 (pow_pos p)) D (z ∙ sym (zero-mul d))
