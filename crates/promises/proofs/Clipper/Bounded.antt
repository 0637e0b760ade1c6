-- Numbers of any sign and a size of at most 2 ^ k, finite therefore: what each operation makes of them, once for any format.
-- Assumes nothing.
use mathlib.Core.Path.{◌≡◌, refl, sym, ap}
use mathlib.Core.Bool.{Bool, true, false, ◌&&◌, ◌||◌, cond, beq}
use Prim.Native.Nat.{ℕ, ◌+◌, ◌-◌, ◌*◌, ◌^◌, ◌≤◌, ◌<◌}
use native.Mathlib.Nat.{le_trans, le_of_lt, le_of_eq, lt_of_le_of_lt, mul-le-mul, mul-le-mul_right, le_of_mul-le-mul_right, mul-pos}
use native.Mathlib.Omega.{arith}
use lib.IntN.{pos, ◌+ℤ◌}
use lib.Dec.{T, ltb, eqb, ltb→lt, eqb→eq, lit<}
use lib.Pow.{pow-add, pow_pos, pow_mono}
use lib.Ieee.{Float, nan, inf, fin, Format, binary32, binary64, prec, emax, up, down, unlike, round, sum, add, sub, mul, div, neg, le}
use lib.Ieee.Exact.{HasValue}
use lib.Ieee.Fits.{and_l, down_pos}
use lib.Ieee.Scale.{overflow, finite}
use borrow.Author.Tests.{ne_eqb}
use Rattle.rounding.specs.Fma.{product, fma}
use Rattle.rounding.proofs.Snap.{snap, snap-below, rep-pow, rep-scale}
use Rattle.rounding.proofs.Units.{U, gap, prec-pos, round-at}
use Rattle.rounding.proofs.Values.{up-down}

abbrev pub Most : ℕ → Float → Type 0
Most k nan = ⊥
Most k (inf s) = ⊥
Most k (fin s m e) = m * up e ≤ 2 ^ k * down e

pub most-finite : (k : ℕ) (x : Float) → Most k x → T (finite x)
most-finite k nan h = absurd h
most-finite k (inf s) h = absurd h
most-finite k (fin s m e) h = tt

pub wider : (i k : ℕ) (x : Float) → i ≤ k → Most i x → Most k x
wider i k nan l h = absurd h
wider i k (inf s) l h = absurd h
wider i k (fin s m e) l h = le_trans h (mul-le-mul_right (down e) (pow_mono l))

-- ---- one rounding
room : (f : Format) → 2 ^ emax f * U f < overflow f
room binary32 = lit< tt
room binary64 = lit< tt

of-value : (f : Format) (k : ℕ) (x : Float) (s : Bool) (n : ℕ) → HasValue x s n (U f) → n ≤ 2 ^ k * U f → Most k x
of-value f k nan s n h l = absurd h
of-value f k (inf t) s n h l = absurd h
of-value f k (fin t m e) s n h l = le_of_mul-le-mul_right (scaled (m * up e) (2 ^ k) (down e) (U f) n h.1 l) (pow_pos (prec f + gap f))
  where
    scaled : (x p d u n : ℕ) → x * u ≡ n * d → n ≤ p * u → x * u ≤ p * d * u
    scaled x p d u n e l = omega (arith, mul-le-mul_right d l)

pub round-most : (f : Format) (s : Bool) (a c k : ℕ) → 0 < c → k ≤ emax f → a ≤ 2 ^ k * c → Most k (round f s a c)
round-most f s a c k C l h =
    let kept : snap (prec f) (a * U f) c ≤ 2 ^ k * U f = snap-below (prec f) (2 ^ k * U f) (a * U f) c (prec-pos f) (rep-scale (prec f) (2 ^ k) (prec f + gap f) (rep-pow (prec f) k (prec-pos f))) C (in-units a (2 ^ k) c (U f) h) in
    let fine = lt_of_le_of_lt kept (lt_of_le_of_lt (mul-le-mul_right (U f) (pow_mono l)) (room f)) in
    of-value f k (round f s a c) s (snap (prec f) (a * U f) c) (round-at f s a c (a * U f) c C C refl fine) kept
  where
    in-units : (a p c u : ℕ) → a ≤ p * c → a * u ≤ p * u * c
    in-units a p c u h = omega (arith, mul-le-mul_right u h)

-- ---- products
times : (a b i j e d : ℕ) → a ≤ 2 ^ i * e → b ≤ 2 ^ j * d → a * b ≤ 2 ^ (i + j) * (e * d)
times a b i j e d p q = rw (pow-add 2 i j) (regroup (2 ^ i) (2 ^ j) (mul-le-mul p q))
  where
    regroup : (x y : ℕ) → a * b ≤ x * e * (y * d) → a * b ≤ x * y * (e * d)
    regroup x y h = omega arith

pub mul_most : (f : Format) (i j : ℕ) (x y : Float) → i + j ≤ emax f → Most i x → Most j y → Most (i + j) (mul f x y)
unfolding mul
mul_most f i j nan y l p q = absurd p
mul_most f i j (inf s) y l p q = absurd p
mul_most f i j (fin s m e) nan l p q = absurd q
mul_most f i j (fin s m e) (inf t) l p q = absurd q
mul_most f i j (fin s m e) (fin t n d) l p q =
    round-most f (unlike s t) (m * up e * (n * up d)) (down e * down d) (i + j) (mul-pos (down_pos e) (down_pos d)) l (times (m * up e) (n * up d) i j (down e) (down d) p q)

product-most : (i j : ℕ) (x y : Float) → Most i x → Most j y → Most (i + j) (product x y)
unfolding product
product-most i j nan y p q = absurd p
product-most i j (inf s) y p q = absurd p
product-most i j (fin s m e) nan p q = absurd q
product-most i j (fin s m e) (inf t) p q = absurd q
product-most i j (fin s m e) (fin t n d) p q =
    le_of_mul-le-mul_right (joined m n (up e) (up d) (up (e +ℤ d)) (down (e +ℤ d)) (down e * down d) (2 ^ (i + j)) (up-down e d) (times (m * up e) (n * up d) i j (down e) (down d) p q)) (mul-pos (down_pos e) (down_pos d))
  where
    joined : (m n a b u w c k : ℕ) → a * b * w ≡ u * c → m * a * (n * b) ≤ k * c → m * n * u * c ≤ k * w * c
    joined m n a b u w c k e h = omega (arith, ap (λ (z : ℕ). m * n * z) e, mul-le-mul_right w h)

-- ---- sums
pub neg-most : (k : ℕ) (x : Float) → Most k x → Most k (neg x)
unfolding neg
neg-most k nan p = absurd p
neg-most k (inf s) p = absurd p
neg-most k (fin s m e) p = p

either : (k : ℕ) (b : Bool) (x y : Float) → Most k x → Most k y → Most k (cond b x y)
either k true x y p q = p
either k false x y p q = q

sum-most : (f : Format) (k : ℕ) (s : Bool) (a : ℕ) (t : Bool) (b c : ℕ) → 0 < c → k + 1 ≤ emax f → a ≤ 2 ^ k * c → b ≤ 2 ^ k * c → Most (k + 1) (sum f s a t b c)
unfolding sum
sum-most f k s a t b c C l p q =
    either (k + 1) (beq s t) (round f s (a + b) c) (cond (ltb a b) (round f t (b - a) c) (round f (s && ltb b a) (a - b) c)) (most s (a + b) (omega arith))
    (either (k + 1) (ltb a b) (round f t (b - a) c) (round f (s && ltb b a) (a - b) c) (most t (b - a) (omega arith)) (most (s && ltb b a) (a - b) (omega arith)))
  where
    twice : (x n : ℕ) → a ≤ x * c → b ≤ x * c → n ≤ a + b → n ≤ x * 2 * c
    twice x n p q h = omega arith

    most : (r : Bool) (n : ℕ) → n ≤ a + b → Most (k + 1) (round f r n c)
    most r n h = round-most f r n c (k + 1) C l (rw (pow-add 2 k 1) (twice (2 ^ k) n p q h))

pub add_most : (f : Format) (k : ℕ) (x y : Float) → k + 1 ≤ emax f → Most k x → Most k y → Most (k + 1) (add f x y)
unfolding add
add_most f k nan y l p q = absurd p
add_most f k (inf s) y l p q = absurd p
add_most f k (fin s m e) nan l p q = absurd q
add_most f k (fin s m e) (inf t) l p q = absurd q
add_most f k (fin s m e) (fin t n d) l p q =
    sum-most f k s (m * up e * down d) t (n * up d * down e) (down e * down d) (mul-pos (down_pos e) (down_pos d)) l
    (left (m * up e) (2 ^ k) (down e) (down d) p) (right (n * up d) (2 ^ k) (down e) (down d) q)
  where
    left : (a x e d : ℕ) → a ≤ x * e → a * d ≤ x * (e * d)
    left a x e d h = omega (arith, mul-le-mul_right d h)

    right : (b x e d : ℕ) → b ≤ x * d → b * e ≤ x * (e * d)
    right b x e d h = omega (arith, mul-le-mul_right e h)

pub sub-most : (f : Format) (k : ℕ) (x y : Float) → k + 1 ≤ emax f → Most k x → Most k y → Most (k + 1) (sub f x y)
unfolding sub
sub-most f k x y l p q = add_most f k x (neg y) l p (neg-most k y q)

pub fma-most : (f : Format) (i j : ℕ) (x y z : Float) → i + j + 1 ≤ emax f → Most i x → Most j y → Most (i + j) z → Most (i + j + 1) (fma f x y z)
unfolding fma
fma-most f i j x y z l p q r = add_most f (i + j) (product x y) z l (product-most i j x y p q) r

-- ---- a quotient by a whole number above 0
pub div_most : (f : Format) (k : ℕ) (x : Float) (n j : ℕ) → k ≤ emax f → 0 < n → Most k x → Most k (div f x (fin false n (pos j)))
unfolding div
div_most f k nan n j l g p = absurd p
div_most f k (inf s) n j l g p = absurd p
div_most f k (fin s m e) n j l g p =
    rw (ne_eqb n 0 (λ z. omega arith))
    (round-most f (unlike s false) (m * up e * 1) (n * 2 ^ j * down e) k (mul-pos (mul-pos g (pow_pos j)) (down_pos e)) l (shared (m * up e) (2 ^ k) (down e) (n * 2 ^ j) p (mul-pos g (pow_pos j))))
  where
    shared : (a x d w : ℕ) → a ≤ x * d → 0 < w → a * 1 ≤ x * (w * d)
    shared a x d w h g = omega (arith, mul-le-mul_right (x * d) g)

-- ---- from -y to y
at_most : (a b : ℕ) (t : Bool) → T (ltb a b || (eqb a b && t)) → a ≤ b
at_most a b t h = go (ltb a b) (ltb→lt a b) h
  where
    go : (w : Bool) → (T w → a < b) → T (w || (eqb a b && t)) → a ≤ b
    go true l h = le_of_lt (l tt)
    go false l h = le_of_eq (eqb→eq a b (and_l (eqb a b) t h))

at_least : (a b : ℕ) (t : Bool) → T (ltb b a || (eqb a b && t)) → b ≤ a
at_least a b t h = go (ltb b a) (ltb→lt b a) h
  where
    go : (w : Bool) → (T w → b < a) → T (w || (eqb a b && t)) → b ≤ a
    go true l h = le_of_lt (l tt)
    go false l h = le_of_eq (sym (eqb→eq a b (and_l (eqb a b) t h)))

pub between-most : (k a j : ℕ) (x : Float) → a * 2 ^ j ≤ 2 ^ k → T (le (fin true a (pos j)) x) → T (le x (fin false a (pos j))) → Most k x
unfolding le
between-most k a j nan l p q = absurd p
between-most k a j (inf true) l p q = absurd p
between-most k a j (inf false) l p q = absurd q
between-most k a j (fin false m e) l p q = under (m * up e) (a * 2 ^ j) (2 ^ k) (down e) l (at_most (m * up e * 1) (a * 2 ^ j * down e) true q)
  where
    under : (x y w d : ℕ) → y ≤ w → x * 1 ≤ y * d → x ≤ w * d
    under x y w d h g = omega (arith, mul-le-mul_right d h)
between-most k a j (fin true m e) l p q = under (m * up e) (a * 2 ^ j) (2 ^ k) (down e) l (at_least (a * 2 ^ j * down e) (m * up e * 1) true p)
  where
    under : (x y w d : ℕ) → y ≤ w → x * 1 ≤ y * d → x ≤ w * d
    under x y w d h g = omega (arith, mul-le-mul_right d h)
