-- `fma` by any fractions that its operands equal (`fma-at`), and a finite value's fraction from its bit pattern (`bits-value`). Assumes nothing.
use mathlib.Core.Path.{◌≡◌, refl, sym, ap, ◌∙◌, subst}
use Prim.Native.Nat.{ℕ, zero, suc, ◌+◌, ◌-◌, ◌*◌, ◌/◌, ◌%◌, ◌^◌, ◌≤◌, ◌<◌}
use native.Mathlib.Nat.{mul_comm, mul-one, one-mul, mul_assoc, mul_left_comm, mul-sub, add-mul, mul-pos, eq_of_mul-eq-mul_right, lt_of_mul-lt-mul_right, mul-lt-mul_of_pos_right, mod-mod_of_dvd, dvd-mul_right}
use native.Mathlib.Omega.{arith}
use mathlib.Core.Bool.{Bool, true, false, not, ◌&&◌, beq, cond}
use lib.IntN.{ℤ, pos, negsuc, sub_ℕ, ◌+ℤ◌}
use lib.Dec.{T, leb, ltb, eqb, eqb-suc-zero, ltb→lt, lt→ltb, nltb→le}
use lib.Pow.{pow-add}
use lib.Ieee.{Float, nan, inf, fin, Format, prec, low, up, down, unlike, sum, add, round, odd, of_bits, of_fields, hid, ones, top}
use lib.Ieee.Fits.{down_pos}
use lib.Ieee.Exact.{HasValue, odd_sign}
use lib.Ieee.Scale.{round_same, finite}
use Rattle.rounding.specs.Fma.{product, fma}
use Rattle.rounding.specs.Steps.{significand}

-- ---- 2 ^ (e + d)
mixed : (a b : ℕ) → up (pos a) * up (negsuc b) * down (sub_ℕ a (suc b)) ≡ up (sub_ℕ a (suc b)) * (down (pos a) * down (negsuc b))
mixed a b = go (ltb a (suc b)) (ltb→lt a (suc b)) (nltb→le a (suc b))
  where
    go : (t : Bool) → (T t → a < suc b) → (T (not t) → suc b ≤ a)
        → 2 ^ a * 1 * down (cond t (negsuc (suc b - suc a)) (pos (a - suc b))) ≡ up (cond t (negsuc (suc b - suc a)) (pos (a - suc b))) * (1 * 2 ^ suc b)
    go true h k =
        ap (λ (x : ℕ). x * 2 ^ suc (suc b - suc a)) (mul-one (2 ^ a))
        ∙ sym (pow-add 2 a (suc (suc b - suc a)))
        ∙ ap (λ (x : ℕ). 2 ^ x) (join a b (h tt))
        ∙ sym (one-mul (2 ^ suc b))
        ∙ sym (one-mul (1 * 2 ^ suc b))
      where
        join : (x y : ℕ) → x < suc y → x + suc (suc y - suc x) ≡ suc y
        join x y l = omega arith
    go false h k =
        mul-one (2 ^ a * 1)
        ∙ mul-one (2 ^ a)
        ∙ ap (λ (x : ℕ). 2 ^ x) (split a b (k tt))
        ∙ pow-add 2 (a - suc b) (suc b)
        ∙ ap (λ (x : ℕ). 2 ^ (a - suc b) * x) (sym (one-mul (2 ^ suc b)))
      where
        split : (x y : ℕ) → suc y ≤ x → x ≡ x - suc y + suc y
        split x y l = omega arith

pub up-down : (e d : ℤ) → up e * up d * down (e +ℤ d) ≡ up (e +ℤ d) * (down e * down d)
up-down (pos a) (pos b) = mul-one (2 ^ a * 2 ^ b) ∙ sym (pow-add 2 a b) ∙ sym (mul-one (2 ^ (a + b)))
up-down (pos a) (negsuc b) = mixed a b
up-down (negsuc a) (pos b) =
    ap (λ (x : ℕ). x * down (sub_ℕ b (suc a))) (mul_comm 1 (2 ^ b)) ∙ mixed b a ∙ ap (λ (x : ℕ). up (sub_ℕ b (suc a)) * x) (mul_comm 1 (2 ^ suc a))
up-down (negsuc a) (negsuc b) =
    one-mul (2 ^ suc (suc (a + b))) ∙ ap (λ (x : ℕ). 2 ^ x) (sums a b) ∙ pow-add 2 (suc a) (suc b) ∙ sym (one-mul (2 ^ suc a * 2 ^ suc b))
  where
    sums : (x y : ℕ) → suc (suc (x + y)) ≡ suc x + suc y
    sums x y = omega arith

-- ---- the exact product
pub multiplied : (m n ue ud U W de dd a b c d : ℕ) → 0 < de → 0 < dd → ue * ud * W ≡ U * (de * dd) → m * ue * c ≡ a * de → n * ud * d ≡ b * dd → m * n * U * (c * d) ≡ a * b * W
multiplied m n ue ud U W de dd a b c d E D h p q =
    eq_of_mul-eq-mul_right (de * dd) (mul-pos E D) (m * n * U * (c * d)) (a * b * W)
    (left ∙ ap (λ (x : ℕ). m * n * (c * d) * x) (sym h) ∙ middle ∙ ap (λ (x : ℕ). x * (n * ud * d) * W) p ∙ ap (λ (x : ℕ). a * de * x * W) q ∙ right)
  where
    left : m * n * U * (c * d) * (de * dd) ≡ m * n * (c * d) * (U * (de * dd))
    left = simp (mul_assoc, mul_comm, mul_left_comm)

    middle : m * n * (c * d) * (ue * ud * W) ≡ m * ue * c * (n * ud * d) * W
    middle = simp (mul_assoc, mul_comm, mul_left_comm)

    right : a * de * (b * dd) * W ≡ a * b * W * (de * dd)
    right = simp (mul_assoc, mul_comm, mul_left_comm)

pub product_value : (x y : Float) (s t : Bool) (a c b d : ℕ) → HasValue x s a c → HasValue y t b d → HasValue (product x y) (unlike s t) (a * b) (c * d)
unfolding product
product_value nan y s t a c b d h k = absurd h
product_value (inf i) y s t a c b d h k = absurd h
product_value (fin i m e) nan s t a c b d h k = absurd k
product_value (fin i m e) (inf j) s t a c b d h k = absurd k
product_value (fin i m e) (fin j n g) s t a c b d (p, h) (q, k) =
    (ap (λ (z : Bool). unlike z j) p ∙ ap (λ (z : Bool). unlike s z) q, multiplied m n (up e) (up g) (up (e +ℤ g)) (down (e +ℤ g)) (down e) (down g) a b c d (down_pos e) (down_pos g) (up-down e g) h k)

-- ---- a sum of two fractions is the sum of two that equal them
pub same_test : (p q : Bool) → (T p → T q) → (T q → T p) → p ≡ q
same_test true true h k = refl
same_test true false h k = absurd (h tt)
same_test false true h k = absurd (k tt)
same_test false false h k = refl

less-over : (a b c a' b' c' : ℕ) → 0 < c' → a * c' ≡ a' * c → b * c' ≡ b' * c → a < b → a' < b'
less-over a b c a' b' c' C p q h = lt_of_mul-lt-mul_right c (subst (λ (x : ℕ). x < b' * c) p (subst (λ (x : ℕ). a * c' < x) q (mul-lt-mul_of_pos_right h C)))

same-ltb : (a b c a' b' c' : ℕ) → 0 < c → 0 < c' → a * c' ≡ a' * c → b * c' ≡ b' * c → ltb a b ≡ ltb a' b'
same-ltb a b c a' b' c' C C' p q =
    same_test (ltb a b) (ltb a' b') (λ (h : T (ltb a b)). lt→ltb a' b' (less-over a b c a' b' c' C' p q (ltb→lt a b h)))
    (λ (h : T (ltb a' b')). lt→ltb a b (less-over a' b' c' a b c C (sym p) (sym q) (ltb→lt a' b' h)))

difference : (a b c a' b' c' : ℕ) → a * c' ≡ a' * c → b * c' ≡ b' * c → (a - b) * c' ≡ (a' - b') * c
difference a b c a' b' c' p q =
    mul_comm (a - b) c' ∙ mul-sub c' a b ∙ omega (arith, mul_comm c' a, mul_comm c' b, mul_comm c a', mul_comm c b') ∙ sym (mul-sub c a' b') ∙ mul_comm c (a' - b')

pub sum_same : (f : Format) (s t : Bool) (a b c a' b' c' : ℕ) → 0 < c → 0 < c' → a * c' ≡ a' * c → b * c' ≡ b' * c → sum f s a t b c ≡ sum f s a' t b' c'
unfolding sum
sum_same f s t a b c a' b' c' C C' p q =
    let one = round_same f s (a + b) c (a' + b') c' C C' (add-mul a b c' ∙ ap (λ (x : ℕ). x + b * c') p ∙ ap (λ (x : ℕ). a' * c + x) q ∙ sym (add-mul a' b' c)) in
    let two = round_same f t (b - a) c (b' - a') c' C C' (difference b a c b' a' c' q p) in
    let three = round_same f (s && ltb b a) (a - b) c (a' - b') c' C C' (difference a b c a' b' c' p q) in
    ap (λ (x : Float). cond (beq s t) x (cond (ltb a b) (round f t (b - a) c) (round f (s && ltb b a) (a - b) c))) one
    ∙ ap (λ (x : Float). cond (beq s t) (round f s (a' + b') c') (cond (ltb a b) x (round f (s && ltb b a) (a - b) c))) two
    ∙ ap (λ (x : Float). cond (beq s t) (round f s (a' + b') c') (cond (ltb a b) (round f t (b' - a') c') x)) three
    ∙ ap (λ (x : Bool). cond (beq s t) (round f s (a' + b') c') (cond x (round f t (b' - a') c') (round f (s && ltb b a) (a' - b') c'))) (same-ltb a b c a' b' c' C C' p q)
    ∙ ap (λ (x : Bool). cond (beq s t) (round f s (a' + b') c') (cond (ltb a' b') (round f t (b' - a') c') (round f (s && x) (a' - b') c'))) (same-ltb b a c b' a' c' C C' q p)

pub add_at : (f : Format) (x y : Float) (s t : Bool) (a c b d U W L : ℕ) → 0 < c → 0 < d → 0 < L → HasValue x s a c → HasValue y t b d
    → a * L ≡ U * c → b * L ≡ W * d → add f x y ≡ sum f s U t W L
unfolding add
add_at f nan y s t a c b d U W L C D P h k i j = absurd h
add_at f (inf z) y s t a c b d U W L C D P h k i j = absurd h
add_at f (fin z m e) nan s t a c b d U W L C D P h k i j = absurd k
add_at f (fin z m e) (inf w) s t a c b d U W L C D P h k i j = absurd k
add_at f (fin z m e) (fin w n g) s t a c b d U W L C D P (o, h) (q, k) i j =
    ap (λ (x : Bool). sum f x (m * up e * down g) w (n * up g * down e) (down e * down g)) o
    ∙ ap (λ (x : Bool). sum f s (m * up e * down g) x (n * up g * down e) (down e * down g)) q
    ∙ sum_same f s t (m * up e * down g) (n * up g * down e) (down e * down g) U W L (mul-pos (down_pos e) (down_pos g)) P
    (over (m * up e) a c (down e) (down g) U L C h i) (over (n * up g) b d (down g) (down e) W L D k j ∙ ap (λ (x : ℕ). W * x) (mul_comm (down g) (down e)))
  where
    -- M / E is a / c, which is U / L
    over : (M a c E G U L : ℕ) → 0 < c → M * c ≡ a * E → a * L ≡ U * c → M * G * L ≡ U * (E * G)
    over M a c E G U L C h i =
        eq_of_mul-eq-mul_right c C (M * G * L) (U * (E * G)) (one ∙ ap (λ (x : ℕ). x * (G * L)) h ∙ two ∙ ap (λ (x : ℕ). x * (E * G)) i ∙ three)
      where
        one : M * G * L * c ≡ M * c * (G * L)
        one = simp (mul_assoc, mul_comm, mul_left_comm)

        two : a * E * (G * L) ≡ a * L * (E * G)
        two = simp (mul_assoc, mul_comm, mul_left_comm)

        three : U * c * (E * G) ≡ U * (E * G) * c
        three = simp (mul_assoc, mul_comm, mul_left_comm)

-- ---- `fma` of three finite values
pub fma-at : (f : Format) (x y z : Float) (s t u : Bool) (a b c l U W L : ℕ) → 0 < l → 0 < L → HasValue x s a l → HasValue y t b l → HasValue z u c l
    → a * b * L ≡ U * (l * l) → c * L ≡ W * l → fma f x y z ≡ sum f (unlike s t) U u W L
unfolding fma
fma-at f x y z s t u a b c l U W L P Q h k j p q = add_at f (product x y) z (unlike s t) u (a * b) (l * l) c l U W L (mul-pos P P) P Q (product_value x y s t a l b l h k) j p q

-- ---- a finite value's fraction, from its bit pattern

of_bits_is : (f : Format) (b : ℕ) → of_bits f b ≡ of_fields f (leb (top f) b) (b % top f / hid f) (b % hid f)
unfolding of_bits
of_bits_is f b = refl

fields_value : (f : Format) (s : Bool) (x t : ℕ) → T (finite (of_fields f s x t)) → HasValue (of_fields f s x t) s (cond (eqb x 0) t (hid f + t) * 2 ^ (x - 1)) (2 ^ low f)
unfolding of_fields
fields_value f s zero t h = odd_sign (prec f) s t 0 (low f)
fields_value f s (suc x) t h = go (eqb (suc x) (ones f)) (eqb t 0) h
  where
    go : (p q : Bool) → T (finite (cond p (cond q (inf s) nan) (odd (prec f) s (hid f + t) x (low f))))
        → HasValue (cond p (cond q (inf s) nan) (odd (prec f) s (hid f + t) x (low f))) s (cond (eqb (suc x) 0) t (hid f + t) * 2 ^ (suc x - 1)) (2 ^ low f)
    go true true k = absurd k
    go true false k = absurd k
    go false q k =
        subst (λ (z : ℕ). HasValue (odd (prec f) s (hid f + t) x (low f)) s (cond (eqb (suc x) 0) t (hid f + t) * 2 ^ z) (2 ^ low f)) (back x)
        (subst (λ (z : Bool). HasValue (odd (prec f) s (hid f + t) x (low f)) s (cond z t (hid f + t) * 2 ^ x) (2 ^ low f)) (sym (eqb-suc-zero x)) (odd_sign (prec f) s (hid f + t) x (low f)))
      where
        back : (n : ℕ) → n ≡ suc n - 1
        back n = omega arith

pub bits-value : (f : Format) (b : ℕ) → T (finite (of_bits f b)) → HasValue (of_bits f b) (leb (top f) b) (significand (hid f) (b % top f) * 2 ^ (b % top f / hid f - 1)) (2 ^ low f)
unfolding significand
bits-value f b h =
    let e = of_bits_is f b in
    let x = b % top f / hid f in
    let m : b % hid f ≡ b % top f % hid f = sym (mod-mod_of_dvd (hid f) b (dvd-mul_right (hid f) (suc (ones f)))) in
    subst (λ (z : ℕ). HasValue (of_bits f b) (leb (top f) b) (cond (eqb x 0) z (hid f + z) * 2 ^ (x - 1)) (2 ^ low f)) m
    (subst (λ (z : Float). HasValue z (leb (top f) b) (cond (eqb x 0) (b % hid f) (hid f + b % hid f) * 2 ^ (x - 1)) (2 ^ low f)) (sym e)
    (fields_value f (leb (top f) b) x (b % hid f) (subst (λ (z : Float). T (finite z)) e h)))
