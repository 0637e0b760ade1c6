-- Floats that are finite and not below zero (`plus`: -0 is one), by their sizes in units: their order is the sizes', and an operation on them is `snap` on sizes. Assumes nothing.
use mathlib.Core.Path.{◌≡◌, refl, sym, ap, ◌∙◌, subst}
use mathlib.Core.Logic.{◌⊎◌, inl, inr}
use Prim.Native.Nat.{ℕ, ◌+◌, ◌-◌, ◌*◌, ◌≤◌, ◌<◌}
use native.Mathlib.Nat.{le_of_eq, le_of_lt, lt_of_lt_of_le, lt_of_le_of_lt, lt_of_not-le, not-le_of_lt, lt_irrefl, eq-or-lt_of_le, eq-zero-or-pos, zero-mul, mul-zero, mul-one, mul-le-mul_right, le_of_mul-le-mul_right, mul-pos, sub-add_cancel, add-le-add, mul-le-mul}
use native.Mathlib.Omega.{arith}
use mathlib.Core.Bool.{Bool, true, false, not, ◌&&◌, ◌||◌, cond}
use lib.IntN.{ℤ, ◌+ℤ◌}
use lib.Dec.{T, not_T, ltb, eqb, ltb→lt, nltb→le, lt→ltb, eqb→eq}
use lib.Arith.{le→nltb}
use lib.Pow.{pow_pos}
use lib.Ieee.{Float, nan, inf, fin, Format, prec, up, down, unlike, below, level, round, sum, mul, sub, div, le, lt, fits}
use lib.Ieee.Fits.{add-fits, and_i, and_l, eq→eqb, down_pos, up_pos}
use lib.Ieee.Exact.{HasValue}
use lib.Ieee.Bits.{is_false}
use lib.Ieee.Scale.{overflow}
use lib.Ieee.Positive.{first_pos}
use Rattle.rounding.proofs.Snap.{Rep, snap, snap-zero, snap-mono, snap-below, snap-above}
use Rattle.rounding.proofs.Units.{gap, prec-pos, U, Size, round-at, unique}
use Rattle.rounding.specs.Fma.{product, fma}
use Rattle.rounding.proofs.Values.{up-down, multiplied}

abbrev pub plus : Float → Bool
plus nan = false
plus (inf s) = false
plus (fin false m e) = true
plus (fin true m e) = eqb m 0

-- ---- the tests on two signed numbers, of which a negative one is zero
pub or_l : (a b : Bool) → T a → T (a || b)
or_l true b t = tt
or_l false b t = absurd t

or_r : (a b : Bool) → T b → T (a || b)
or_r true b t = tt
or_r false b t = t

or_split : (a b : Bool) → T (a || b) → T a ⊎ T b
or_split true b t = inl tt
or_split false b t = inr t

at-or-above : (a b : ℕ) → a ≡ 0 → a ≤ b
at-or-above a b e = omega arith

same-zero : (a b : ℕ) → a ≡ 0 → b ≡ 0 → a ≡ b
same-zero a b e d = omega arith

pub le-i : (s : Bool) (a : ℕ) (t : Bool) (b : ℕ) → (T s → a ≡ 0) → (T t → b ≡ 0) → a ≤ b → T (below s a t b || level s a t b)
le-i false a false b p q h = elim (eq-or-lt_of_le h) [ inl e ↦ or_r (ltb a b) (eqb a b && true) (and_i (eqb a b) true (eq→eqb e) tt) | inr l ↦ or_l (ltb a b) (eqb a b && true) (lt→ltb a b l) ]
le-i false a true b p q h =
    let z : a ≡ 0 = omega (arith, q tt) in
    and_i (eqb a b) (eqb a 0) (eq→eqb (same-zero a b z (q tt))) (eq→eqb z)
le-i true a false b p q h = elim (eq-zero-or-pos b) [
  | inl z ↦ or_r (ltb 0 (a + b)) (eqb a b && eqb a 0) (and_i (eqb a b) (eqb a 0) (eq→eqb (same-zero a b (p tt) z)) (eq→eqb (p tt)))
  | inr l ↦ or_l (ltb 0 (a + b)) (eqb a b && eqb a 0) (lt→ltb 0 (a + b) (omega (arith, l)))
]
le-i true a true b p q h = or_r (ltb b a) (eqb a b && true) (and_i (eqb a b) true (eq→eqb (same-zero a b (p tt) (q tt))) tt)

le-e : (s : Bool) (a : ℕ) (t : Bool) (b : ℕ) → (T s → a ≡ 0) → T (below s a t b || level s a t b) → a ≤ b
le-e true a t b p h = at-or-above a b (p tt)
le-e false a false b p h = elim (or_split (ltb a b) (eqb a b && true) h) [ inl u ↦ le_of_lt (ltb→lt a b u) | inr u ↦ le_of_eq (eqb→eq a b (and_l (eqb a b) true u)) ]
le-e false a true b p h = le_of_eq (eqb→eq a b (and_l (eqb a b) (eqb a 0) h))

lt-i : (s : Bool) (a : ℕ) (t : Bool) (b : ℕ) → (T t → b ≡ 0) → a < b → T (below s a t b)
lt-i false a false b q h = lt→ltb a b h
lt-i true a false b q h = lt→ltb 0 (a + b) (omega arith)
lt-i false a true b q h = none a b h (q tt)
  where
    none : (a b : ℕ) → a < b → b ≡ 0 → ⊥
    none a b h e = omega arith
lt-i true a true b q h = absurd (none a b h (q tt))
  where
    none : (a b : ℕ) → a < b → b ≡ 0 → ⊥
    none a b h e = omega arith

lt-e : (s : Bool) (a : ℕ) (t : Bool) (b : ℕ) → (T s → a ≡ 0) → T (below s a t b) → a < b
lt-e false a false b p h = ltb→lt a b h
lt-e false a true b p h = absurd h
lt-e true a false b p h = omega (arith, p tt, ltb→lt 0 (a + b) h)
lt-e true a true b p h = omega (arith, p tt, ltb→lt b a h)

-- ---- x / u and y / v are a and b units
cross-i : (x u y v a b l : ℕ) → 0 < l → x * l ≡ a * u → y * l ≡ b * v → a ≤ b → x * v ≤ y * u
cross-i x u y v a b l L h k g = le_of_mul-le-mul_right (omega (arith, ap (λ (z : ℕ). z * v) h, ap (λ (z : ℕ). z * u) k, mul-le-mul_right (u * v) g)) L

cross-e : (x u y v a b l : ℕ) → 0 < u → 0 < v → x * l ≡ a * u → y * l ≡ b * v → x * v ≤ y * u → a ≤ b
cross-e x u y v a b l A B h k g = le_of_mul-le-mul_right (omega (arith, ap (λ (z : ℕ). z * v) h, ap (λ (z : ℕ). z * u) k, mul-le-mul_right l g)) (mul-pos A B)

signed-zero : (s : Bool) (m : ℕ) (e : ℤ) (k : ℕ) → T (plus (fin s m e)) → T s → m * up e * k ≡ 0
signed-zero false m e k p t = absurd t
signed-zero true m e k p t = ap (λ (z : ℕ). z * up e * k) (eqb→eq m 0 p) ∙ simp zero-mul

module _ (f : Format) where
  pub le-of-sizes : (x y : Float) (a b : ℕ) → T (plus x) → T (plus y) → Size f x a → Size f y b → a ≤ b → T (le x y)
  unfolding le
  le-of-sizes nan y a b p q h k g = absurd p
  le-of-sizes (inf s) y a b p q h k g = absurd p
  le-of-sizes (fin s m e) nan a b p q h k g = absurd q
  le-of-sizes (fin s m e) (inf t) a b p q h k g = absurd q
  le-of-sizes (fin s m e) (fin t n d) a b p q h k g =
      le-i s (m * up e * down d) t (n * up d * down e) (signed-zero s m e (down d) p) (signed-zero t n d (down e) q)
      (cross-i (m * up e) (down e) (n * up d) (down d) a b (U f) (pow_pos (prec f + gap f)) h k g)

  pub sizes-of-le : (x y : Float) (a b : ℕ) → T (plus x) → T (plus y) → Size f x a → Size f y b → T (le x y) → a ≤ b
  unfolding le
  sizes-of-le nan y a b p q h k g = absurd p
  sizes-of-le (inf s) y a b p q h k g = absurd p
  sizes-of-le (fin s m e) nan a b p q h k g = absurd q
  sizes-of-le (fin s m e) (inf t) a b p q h k g = absurd q
  sizes-of-le (fin s m e) (fin t n d) a b p q h k g =
      cross-e (m * up e) (down e) (n * up d) (down d) a b (U f) (down_pos e) (down_pos d) h k
      (le-e s (m * up e * down d) t (n * up d * down e) (signed-zero s m e (down d) p) g)

  pub lt-of-sizes : (x y : Float) (a b : ℕ) → T (plus x) → T (plus y) → Size f x a → Size f y b → a < b → T (lt x y)
  unfolding lt
  lt-of-sizes nan y a b p q h k g = absurd p
  lt-of-sizes (inf s) y a b p q h k g = absurd p
  lt-of-sizes (fin s m e) nan a b p q h k g = absurd q
  lt-of-sizes (fin s m e) (inf t) a b p q h k g = absurd q
  lt-of-sizes (fin s m e) (fin t n d) a b p q h k g =
      lt-i s (m * up e * down d) t (n * up d * down e) (signed-zero t n d (down e) q)
      (lt_of_not-le (λ (z : n * up d * down e ≤ m * up e * down d). not-le_of_lt g (cross-e (n * up d) (down d) (m * up e) (down e) b a (U f) (down_pos d) (down_pos e) k h z)))

  pub sizes-of-lt : (x y : Float) (a b : ℕ) → T (plus x) → T (plus y) → Size f x a → Size f y b → T (lt x y) → a < b
  unfolding lt
  sizes-of-lt nan y a b p q h k g = absurd p
  sizes-of-lt (inf s) y a b p q h k g = absurd p
  sizes-of-lt (fin s m e) nan a b p q h k g = absurd q
  sizes-of-lt (fin s m e) (inf t) a b p q h k g = absurd q
  sizes-of-lt (fin s m e) (fin t n d) a b p q h k g =
      lt_of_not-le (λ (z : b ≤ a). not-le_of_lt (lt-e s (m * up e * down d) t (n * up d * down e) (signed-zero s m e (down d) p) g) (cross-i (n * up d) (down d) (m * up e) (down e) b a (U f) (pow_pos (prec f + gap f)) k h z))

-- ---- a value that is not below zero, and its size
abbrev pub At : Format → Float → ℕ → Type 0
At f x n = T (plus x) × Size f x n

pub no_size : (m u l n d : ℕ) → 0 < u → 0 < l → m * u * l ≡ n * d → n ≡ 0 → m ≡ 0
no_size m u l n d A B h z = elim (eq-zero-or-pos m) [ inl e ↦ e | inr p ↦ absurd (lt_irrefl 0 (lt_of_lt_of_le (mul-pos (mul-pos p A) B) (le_of_eq (h ∙ ap (λ (y : ℕ). y * d) z ∙ zero-mul d)))) ]

pub value→at : (f : Format) (x : Float) (s : Bool) (n : ℕ) → HasValue x s n (U f) → (T s → n ≡ 0) → At f x n
value→at f nan s n h z = absurd h
value→at f (inf t) s n h z = absurd h
value→at f (fin false m e) s n h z = (tt, h.1)
value→at f (fin true m e) s n h z = (eq→eqb (no_size m (up e) (U f) n (down e) (up_pos e) (pow_pos (prec f + gap f)) h.1 (z (subst (λ (b : Bool). T b) h.0 tt))), h.1)

pub value→size : (f : Format) (x : Float) (s : Bool) (n : ℕ) → HasValue x s n (U f) → Size f x n
value→size f nan s n h = absurd h
value→size f (inf t) s n h = absurd h
value→size f (fin t m e) s n h = h.1

-- ---- the product, of any signs
two-sizes : (x u y v a b l : ℕ) → x * l ≡ a * u → y * l ≡ b * v → x * y * l * l ≡ a * b * (u * v)
two-sizes x u y v a b l h k =
    let e : x * l * (y * l) ≡ a * u * (b * v) = ap (λ (z : ℕ). z * (y * l)) h ∙ ap (λ (z : ℕ). a * u * z) k in
    omega arith

pub mul-size : (f : Format) (x y : Float) (a b : ℕ) → Size f x a → Size f y b → snap (prec f) (a * b) (U f) < overflow f → Size f (mul f x y) (snap (prec f) (a * b) (U f))
unfolding mul
mul-size f nan y a b h k g = absurd h
mul-size f (inf s) y a b h k g = absurd h
mul-size f (fin s m e) nan a b h k g = absurd k
mul-size f (fin s m e) (inf t) a b h k g = absurd k
mul-size f (fin s m e) (fin t n d) a b h k g =
    value→size f (round f (unlike s t) (m * up e * (n * up d)) (down e * down d)) (unlike s t) (snap (prec f) (a * b) (U f))
    (round-at f (unlike s t) (m * up e * (n * up d)) (down e * down d) (a * b) (U f) (mul-pos (down_pos e) (down_pos d)) (pow_pos (prec f + gap f))
    (two-sizes (m * up e) (down e) (n * up d) (down d) a b (U f) h k) g)

-- ---- `round`, of a fraction that is zero if its sign is negative
size-zero : (a c n d : ℕ) → 0 < c → a ≡ n * c → a ≡ 0 → n ≡ 0
size-zero a c n d C h z = no_size n c 1 0 1 C (pow_pos 0) (omega arith) refl

pub round-to : (f : Format) (s : Bool) (a c n d : ℕ) → 0 < c → 0 < d → a * U f * d ≡ n * c → (T s → a ≡ 0) → snap (prec f) n d < overflow f → At f (round f s a c) (snap (prec f) n d)
round-to f s a c n d C D e z g =
    value→at f (round f s a c) s (snap (prec f) n d) (round-at f s a c n d C D e g)
    (λ (t : T s). snap-zero (prec f) n d D (size-zero (a * U f * d) c n d C e (ap (λ (y : ℕ). y * U f * d) (z t) ∙ simp zero-mul)))

-- the sign of a product of two values that are not below zero
unlike-zero : (s : Bool) (m : ℕ) (e : ℤ) (t : Bool) (n : ℕ) (d : ℤ) → T (plus (fin s m e)) → T (plus (fin t n d)) → T (unlike s t) → m * up e * (n * up d) ≡ 0
unlike-zero false m e false n d p q u = absurd u
unlike-zero true m e true n d p q u = absurd u
unlike-zero false m e true n d p q u = ap (λ (z : ℕ). m * up e * (z * up d)) (eqb→eq n 0 q) ∙ simp (zero-mul, mul-zero)
unlike-zero true m e false n d p q u = ap (λ (z : ℕ). z * up e * (n * up d)) (eqb→eq m 0 p) ∙ simp zero-mul

pub mul_at : (f : Format) (x y : Float) (a b : ℕ) → At f x a → At f y b → snap (prec f) (a * b) (U f) < overflow f → At f (mul f x y) (snap (prec f) (a * b) (U f))
unfolding mul
mul_at f nan y a b h k g = absurd h.0
mul_at f (inf s) y a b h k g = absurd h.0
mul_at f (fin s m e) nan a b h k g = absurd k.0
mul_at f (fin s m e) (inf t) a b h k g = absurd k.0
mul_at f (fin s m e) (fin t n d) a b h k g =
    round-to f (unlike s t) (m * up e * (n * up d)) (down e * down d) (a * b) (U f) (mul-pos (down_pos e) (down_pos d)) (pow_pos (prec f + gap f))
    (two-sizes (m * up e) (down e) (n * up d) (down d) a b (U f) h.1 k.1) (unlike-zero s m e t n d h.0 k.0) g

-- ---- a sum of two numbers, of which a negative one is zero
record Sum (f : Format) (x : Float) (n c : ℕ) : Type 0 where
  sign : Bool
  is : x ≡ round f sign n c
  zero-if : T sign → n ≡ 0

sum-plus : (f : Format) (s : Bool) (a : ℕ) (t : Bool) (b c : ℕ) → (T s → a ≡ 0) → (T t → b ≡ 0) → Sum f (sum f s a t b c) (a + b) c
unfolding sum
sum-plus f false a false b c p q = record { sign = false; is = refl; zero-if = λ t. absurd t }
sum-plus f true a true b c p q = record { sign = true; is = refl; zero-if = λ t. omega (arith, p tt, q tt) }
sum-plus f false a true b c p q = record { sign = false; is = go (ltb a b) (ltb→lt a b); zero-if = λ t. absurd t }
  where
    z : b ≡ 0
    z = q tt

    go : (w : Bool) → (T w → a < b) → cond w (round f true (b - a) c) (round f false (a - b) c) ≡ round f false (a + b) c
    go true h = absurd (not-le_of_lt (h tt) (at-or-above b a z))
    go false h = ap (λ (n : ℕ). round f false n c) (omega (arith, z))
sum-plus f true a false b c p q = record { sign = false; is = go (ltb a b) (nltb→le a b); zero-if = λ t. absurd t }
  where
    z : a ≡ 0
    z = p tt

    go : (w : Bool) → (T (not w) → b ≤ a) → cond w (round f false (b - a) c) (round f (ltb b a) (a - b) c) ≡ round f false (a + b) c
    go true h = ap (λ (n : ℕ). round f false n c) (omega (arith, z))
    go false h = ap (λ (w : Bool). round f w (a - b) c) (is_false (ltb b a) (le→nltb b a (at-or-above a b z))) ∙ ap (λ (n : ℕ). round f false n c) (omega (arith, z, h tt))

-- ---- fma: the exact product P / D, and z / w
product-sizes : (P D z w a b c l : ℕ) → P * (l * l) ≡ a * b * D → z * l ≡ c * w → (P * w + z * D) * l * l ≡ (a * b + c * l) * (D * w)
product-sizes P D z w a b c l h i = omega (arith, ap (λ (q : ℕ). q * w) h, ap (λ (q : ℕ). q * (D * l)) i)

unlike-none : (s : Bool) (m : ℕ) (e : ℤ) (t : Bool) (n : ℕ) (d : ℤ) (k : ℕ) → T (plus (fin s m e)) → T (plus (fin t n d)) → T (unlike s t) → m * n * up (e +ℤ d) * k ≡ 0
unlike-none false m e false n d k p q u = absurd u
unlike-none true m e true n d k p q u = absurd u
unlike-none false m e true n d k p q u = ap (λ (z : ℕ). m * z * up (e +ℤ d) * k) (eqb→eq n 0 q) ∙ simp (zero-mul, mul-zero)
unlike-none true m e false n d k p q u = ap (λ (z : ℕ). z * n * up (e +ℤ d) * k) (eqb→eq m 0 p) ∙ simp zero-mul

pub fma-at : (f : Format) (x y z : Float) (a b c : ℕ) → At f x a → At f y b → At f z c → snap (prec f) (a * b + c * U f) (U f) < overflow f → At f (fma f x y z) (snap (prec f) (a * b + c * U f) (U f))
unfolding fma
fma-at f nan y z a b c h k i g = absurd h.0
fma-at f (inf s) y z a b c h k i g = absurd h.0
fma-at f (fin s m e) nan z a b c h k i g = absurd k.0
fma-at f (fin s m e) (inf t) z a b c h k i g = absurd k.0
fma-at f (fin s m e) (fin t n d) nan a b c h k i g = absurd i.0
fma-at f (fin s m e) (fin t n d) (inf u) a b c h k i g = absurd i.0
fma-at f (fin s m e) (fin t n d) (fin u o r) a b c h k i g =
    let P = m * n * up (e +ℤ d) in
    let D = down (e +ℤ d) in
    let A = P * down r in
    let B = o * up r * D in
    let w = sum-plus f (unlike s t) A u B (D * down r) (unlike-none s m e t n d (down r) h.0 k.0) (signed-zero u o r D i.0) in
    subst (λ (x : Float). At f x (snap (prec f) (a * b + c * U f) (U f))) (sym w.is)
    (round-to f w.sign (A + B) (D * down r) (a * b + c * U f) (U f) (mul-pos (down_pos (e +ℤ d)) (down_pos r)) (pow_pos (prec f + gap f))
    (product-sizes P D (o * up r) (down r) a b c (U f) (multiplied m n (up e) (up d) (up (e +ℤ d)) D (down e) (down d) a b (U f) (U f) (down_pos e) (down_pos d) (up-down e d) h.1 k.1) i.1) w.zero-if g)

-- ---- the difference x - y, for a y that is no larger than x
differ : (x y l a b k : ℕ) → y ≤ x → b ≤ a → x * l ≡ a * k → y * l ≡ b * k → (x - y) * l ≡ (a - b) * k
differ x y l a b k h g p q =
    let e : x - y + y ≡ x = sub-add_cancel h in
    let d : a - b + b ≡ a = sub-add_cancel g in
    omega (arith, ap (λ (z : ℕ). z * l) e, ap (λ (z : ℕ). z * k) d)

-- a sum of x, which is not below zero, and -y
sum-minus : (f : Format) (a : ℕ) (t : Bool) (b c : ℕ) → (T t → b ≡ 0) → b ≤ a → sum f false a (not t) b c ≡ round f false (a - b) c
unfolding sum
sum-minus f a true b c q h = ap (λ (n : ℕ). round f false n c) (omega (arith, q tt))
sum-minus f a false b c q h = go (ltb a b) (ltb→lt a b)
  where
    go : (w : Bool) → (T w → a < b) → cond w (round f true (b - a) c) (round f false (a - b) c) ≡ round f false (a - b) c
    go true k = absurd (not-le_of_lt (k tt) h)
    go false k = refl

pub sub_at : (f : Format) (m : ℕ) (e : ℤ) (y : Float) (a b : ℕ) → Size f (fin false m e) a → At f y b → b ≤ a → snap (prec f) (a - b) 1 < overflow f → At f (sub f (fin false m e) y) (snap (prec f) (a - b) 1)
unfolding sub
sub_at f m e nan a b h k l g = absurd k.0
sub_at f m e (inf t) a b h k l g = absurd k.0
sub_at f m e (fin t n d) a b h k l g =
    let A = m * up e * down d in
    let B = n * up d * down e in
    let C = down e * down d in
    let o : B ≤ A = cross-i (n * up d) (down d) (m * up e) (down e) b a (U f) (pow_pos (prec f + gap f)) k.1 h l in
    let i : sum f false A (not t) B C ≡ round f false (A - B) C = sum-minus f A t B C (signed-zero t n d (down e) k.0) o in
    let v : (A - B) * U f ≡ (a - b) * C = differ A B (U f) a b C o l (omega (arith, ap (λ (z : ℕ). z * down d) h)) (omega (arith, ap (λ (z : ℕ). z * down e) k.1)) in
    subst (λ (x : Float). At f x (snap (prec f) (a - b) 1)) (sym i)
    (round-to f false (A - B) C (a - b) 1 (mul-pos (down_pos e) (down_pos d)) (pow_pos 0) (mul-one ((A - B) * U f) ∙ v) (λ t. absurd t) g)

-- ---- the quotient of two values above or at zero, the divisor above
pub div-at : (f : Format) (x : Float) (n : ℕ) (d : ℤ) (a b : ℕ) → At f x a → Size f (fin false n d) b → 0 < b → snap (prec f) (a * U f) b < overflow f → At f (div f x (fin false n d)) (snap (prec f) (a * U f) b)
unfolding div
div-at f nan n d a b h k l g = absurd h.0
div-at f (inf s) n d a b h k l g = absurd h.0
div-at f (fin s m e) n d a b h k l g =
    let N : 0 < n = first_pos n (up d) (first_pos (n * up d) (U f) (subst (λ (z : ℕ). 0 < z) (sym k) (mul-pos l (down_pos d)))) in
    let w : eqb n 0 ≡ false = is_false (eqb n 0) (not_T (eqb n 0) (λ (t : T (eqb n 0)). not-zero n N (eqb→eq n 0 t))) in
    subst (λ (c : Bool). At f (cond c (cond (eqb m 0) nan (inf (unlike s false))) (round f (unlike s false) (m * up e * down d) (n * up d * down e))) (snap (prec f) (a * U f) b)) (sym w)
    (round-to f (unlike s false) (m * up e * down d) (n * up d * down e) (a * U f) b (mul-pos (mul-pos N (up_pos d)) (down_pos e)) l
    (omega (arith, ap (λ (z : ℕ). z * (down d * b)) h.1, ap (λ (z : ℕ). z * (a * down e)) k))
    (λ (t : T (unlike s false)). signed-zero s m e (down d) h.0 (negative s t)) g)
  where
    not-zero : (n : ℕ) → 0 < n → n ≡ 0 → ⊥
    not-zero n h z = omega arith

    negative : (s : Bool) → T (unlike s false) → T s
    negative true t = tt
    negative false t = t

-- ---- two values that fit, of one size above zero, are one
pub at→value : (f : Format) (x : Float) (n : ℕ) → At f x n → 0 < n → HasValue x false n (U f)
at→value f nan n h p = absurd h.0
at→value f (inf t) n h p = absurd h.0
at→value f (fin false m e) n h p = (refl, h.1)
at→value f (fin true m e) n h p = absurd (lt_irrefl 0 (subst (λ (z : ℕ). 0 < z) (size-zero (m * up e * U f) (down e) n 1 (down_pos e) h.1 (signed-zero true m e (U f) h.0 tt)) p))

pub at-unique : (f : Format) (x y : Float) (n : ℕ) → T (fits f x) → T (fits f y) → At f x n → At f y n → 0 < n → x ≡ y
at-unique f x y n p q h k g = unique f x y false n (U f) (pow_pos (prec f + gap f)) p q (at→value f x n h g) (at→value f y n k g)

-- ---- fma's result fits
pub fma-fits : (f : Format) (x y z : Float) → T (fits f (fma f x y z))
unfolding fma
fma-fits f x y z = add-fits f (product x y) z

-- ---- fma against a value w that fits, of n units: it is on the same side of w as the exact x * y + z
pub fma-le : (f : Format) (x y z w : Float) (a b c n : ℕ) → At f x a → At f y b → At f z c → At f w n → Rep (prec f) n → n < overflow f → a * b + c * U f ≤ n * U f → T (le (fma f x y z) w)
fma-le f x y z w a b c n h k i j r o g =
    let t : snap (prec f) (a * b + c * U f) (U f) ≤ n = snap-below (prec f) n (a * b + c * U f) (U f) (prec-pos f) r (pow_pos (prec f + gap f)) g in
    let v = fma-at f x y z a b c h k i (lt_of_le_of_lt t o) in
    le-of-sizes f (fma f x y z) w (snap (prec f) (a * b + c * U f) (U f)) n v.0 j.0 v.1 j.1 t

pub fma-ge : (f : Format) (x y z w : Float) (a b c n : ℕ) → At f x a → At f y b → At f z c → At f w n → Rep (prec f) n → snap (prec f) (a * b + c * U f) (U f) < overflow f → n * U f ≤ a * b + c * U f → T (le w (fma f x y z))
fma-ge f x y z w a b c n h k i j r o g =
    let v = fma-at f x y z a b c h k i o in
    le-of-sizes f w (fma f x y z) n (snap (prec f) (a * b + c * U f) (U f)) j.0 v.0 j.1 v.1 (snap-above (prec f) n (a * b + c * U f) (U f) (prec-pos f) r (pow_pos (prec f + gap f)) g)

-- and it grows with each of the three
pub fma-mono : (f : Format) (x x' y y' z z' : Float) (a a' b b' c c' : ℕ) → At f x a → At f x' a' → At f y b → At f y' b' → At f z c → At f z' c'
    → snap (prec f) (a' * b' + c' * U f) (U f) < overflow f → a ≤ a' → b ≤ b' → c ≤ c' → T (le (fma f x y z) (fma f x' y' z'))
fma-mono f x x' y y' z z' a a' b b' c c' h h' k k' i i' o p q r =
    let t : snap (prec f) (a * b + c * U f) (U f) ≤ snap (prec f) (a' * b' + c' * U f) (U f) = snap-mono (prec f) (a * b + c * U f) (U f) (a' * b' + c' * U f) (U f) (prec-pos f) (pow_pos (prec f + gap f)) (pow_pos (prec f + gap f)) (mul-le-mul_right (U f) (add-le-add (mul-le-mul p q) (mul-le-mul_right (U f) r))) in
    let v = fma-at f x y z a b c h k i (lt_of_le_of_lt t o) in
    let w = fma-at f x' y' z' a' b' c' h' k' i' o in
    le-of-sizes f (fma f x y z) (fma f x' y' z') (snap (prec f) (a * b + c * U f) (U f)) (snap (prec f) (a' * b' + c' * U f) (U f)) v.0 w.0 v.1 w.1 t
