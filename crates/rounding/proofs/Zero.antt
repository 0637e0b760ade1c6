-- `fma` where an operand is a zero: without a factor the product is a zero exactly, so the sum is all the rounding there is; without the third term the product is. Once for any format.
-- Assumes nothing.
use mathlib.Core.Path.{◌≡◌, refl, sym, ap, ◌∙◌, subst}
use mathlib.Core.Logic.{◌⊎◌, inl, inr}
use Prim.Native.Nat.{ℕ, ◌+◌, ◌-◌, ◌*◌, ◌^◌, ◌<◌}
use native.Mathlib.Nat.{zero-mul, mul-zero, mul_assoc, mul_left_comm, mul-pos, eq-zero-or-pos}
use native.Mathlib.Omega.{arith}
use mathlib.Core.Bool.{Bool, true, false, not, ◌&&◌, ◌||◌, cond, beq, true≢false}
use lib.IntN.{ℤ, pos, ◌+ℤ◌}
use lib.Dec.{T, ltb, eqb, eqb→eq}
use lib.Pow.{pow_pos}
use lib.Ieee.{Float, nan, inf, fin, Format, binary32, binary64, low, top, up, down, unlike, round, sum, add, mul, eq, of_bits, is_nan}
use lib.Ieee.Fits.{down_pos, up_pos, and_l}
use lib.Ieee.Exact.{HasValue}
use lib.Ieee.Scale.{round_same, finite}
use borrow.Author.Tests.{le-ltb, lt-ltb}
use Rattle.rounding.specs.Fma.{product, fma}
use Rattle.rounding.proofs.Values.{add_at, product_value}
use Rattle.rounding.proofs.Terms.{round-zero, fma-plain}

-- the pattern of a zero
pub nought : (f : Format) (s : Bool) → of_bits f (cond s (top f) 0 + 0) ≡ fin s 0 (pos 0)
unfolding of_bits
nought binary32 true = refl
nought binary32 false = refl
nought binary64 true = refl
nought binary64 false = refl

-- a zero rounded is the zero of its sign
pub round-nought : (f : Format) (s : Bool) (c : ℕ) → 0 < c → round f s 0 c ≡ fin s 0 (pos 0)
round-nought f s c h = round_same f s 0 c 0 (2 ^ (0 + low f)) h (pow_pos (0 + low f)) (zero-mul (2 ^ (0 + low f)) ∙ sym (zero-mul c)) ∙ round-zero f s 0 ∙ nought f s

-- x == 0.0 held
abbrev pub Zero : Float → Type 0
Zero x = (s : Bool) × ((e : ℤ) × (x ≡ fin s 0 e))

eq-nought : (x : Float) → eq x (fin false 0 (pos 0)) ≡ true → Zero x
unfolding eq
eq-nought nan h = absurd (true≢false (sym h))
eq-nought (inf s) h = absurd (true≢false (sym h))
eq-nought (fin s m e) h = (s, (e, ap (λ (z : ℕ). fin s z e) (none (eq-zero-or-pos m))))
  where
    level : T (eqb (m * up e * 1) (0 * down e) && (beq s false || eqb (m * up e * 1) 0))
    level = subst T (sym h) tt

    none : (m ≡ 0) ⊎ (0 < m) → m ≡ 0
    none (inl z) = z
    none (inr p) =
        let q : 0 < m * up e * 1 = mul-pos (mul-pos p (up_pos e)) (omega arith) in
        let r : m * up e * 1 ≡ 0 = eqb→eq (m * up e * 1) (0 * down e) (and_l (eqb (m * up e * 1) (0 * down e)) (beq s false || eqb (m * up e * 1) 0) level) ∙ zero-mul (down e) in
        omega arith

pub is_zero : (f : Format) (x : Float) → eq x (of_bits f 0) ≡ true → Zero x
is_zero f x h = eq-nought x (sym (ap (eq x) (nought f false)) ∙ h)

-- x == 0.0 did not hold
pub nought-eq : (s : Bool) (e : ℤ) → eq (fin s 0 e) (fin false 0 (pos 0)) ≡ true
unfolding eq
nought-eq true e = simp (zero-mul)
nought-eq false e = simp (zero-mul)

not-zero : (f : Format) (s : Bool) (m : ℕ) (e : ℤ) → eq (fin s m e) (of_bits f 0) ≡ false → 0 < m
not-zero f s m e h =
    elim (eq-zero-or-pos m) [
      | inl z ↦ absurd (true≢false (sym (nought-eq s e) ∙ ap (λ (n : ℕ). eq (fin s n e) (fin false 0 (pos 0))) (sym z) ∙ sym (ap (eq (fin s m e)) (nought f false)) ∙ h))
      | inr p ↦ p
    ]

pub zero-eq : (f : Format) (x : Float) → Zero x → eq x (of_bits f 0) ≡ true
zero-eq f x w = ap (eq x) (nought f false) ∙ ap (λ (v : Float). eq v (fin false 0 (pos 0))) w.1.1 ∙ nought-eq w.0 w.1.0

zero-finite : (x : Float) → Zero x → T (finite x)
zero-finite x w = subst (λ (v : Float). T (finite v)) (sym w.1.1) tt

zero-digits : (s : Bool) (m : ℕ) (e : ℤ) → Zero (fin s m e) → m ≡ 0
zero-digits s m e w = ap digits w.1.1
  where
    digits : Float → ℕ
    digits nan = 0
    digits (inf i) = 0
    digits (fin i k g) = k

-- ---- a factor is a zero

-- adding a zero, however it is written, to a finite value
zero-plus : (f : Format) (x : Float) (s t : Bool) (c n : ℕ) (g : ℤ) → 0 < c → HasValue x s 0 c → add f x (fin t n g) ≡ sum f s 0 t (n * up g) (down g)
zero-plus f x s t c n g C h = add_at f x (fin t n g) s t 0 c (n * up g) (down g) 0 (n * up g) (down g) C (down_pos g) (down_pos g) h (refl, refl) (zero-mul (down g) ∙ sym (zero-mul c)) refl

zero-sum : (f : Format) (x y z : Float) (s : Bool) (c d : ℕ) → 0 < c → 0 < d → HasValue x s 0 c → HasValue y s 0 d → add f x z ≡ add f y z
unfolding add
zero-sum f nan y z s c d C D h k = absurd h
zero-sum f (inf i) y z s c d C D h k = absurd h
zero-sum f (fin i m e) nan z s c d C D h k = absurd k
zero-sum f (fin i m e) (inf j) z s c d C D h k = absurd k
zero-sum f (fin i m e) (fin j n g) nan s c d C D h k = refl
zero-sum f (fin i m e) (fin j n g) (inf t) s c d C D h k = refl
zero-sum f (fin i m e) (fin j n g) (fin t q l) s c d C D h k = zero-plus f (fin i m e) s t c q l C h ∙ sym (zero-plus f (fin j n g) s t d q l D k)

both : (f : Format) (s t : Bool) (m n : ℕ) (e d : ℤ) (z : Float) → m * n ≡ 0 → add f (mul f (fin s m e) (fin t n d)) z ≡ fma f (fin s m e) (fin t n d) z
unfolding fma mul product
both f s t m n e d z h =
    let u = unlike s t in
    let q : m * up e * (n * up d) ≡ 0 = shuffle m (up e) n (up d) ∙ ap (λ (x : ℕ). x * (up e * up d)) h ∙ zero-mul (up e * up d) in
    zero-sum f (round f u (m * up e * (n * up d)) (down e * down d)) (fin u (m * n) (e +ℤ d)) z u 1 1 (omega arith) (omega arith)
    (subst (λ (x : Float). HasValue x u 0 1) (sym (ap (λ (x : ℕ). round f u x (down e * down d)) q ∙ round-nought f u (down e * down d) (mul-pos (down_pos e) (down_pos d)))) (refl, refl))
    (refl, ap (λ (x : ℕ). x * up (e +ℤ d) * 1) h ∙ simp (zero-mul))
  where
    shuffle : (a b c d : ℕ) → a * b * (c * d) ≡ a * c * (b * d)
    shuffle a b c d = simp (mul_assoc, mul_left_comm)

pub zero-factor : (f : Format) (x y z : Float) → Zero x ⊎ Zero y → add f (mul f x y) z ≡ fma f x y z
zero-factor f x nan z h = fma-plain f x nan z (inr tt)
zero-factor f x (inf t) z h = fma-plain f x (inf t) z (inr tt)
zero-factor f nan (fin t n d) z h = fma-plain f nan (fin t n d) z (inl tt)
zero-factor f (inf s) (fin t n d) z h = fma-plain f (inf s) (fin t n d) z (inl tt)
zero-factor f (fin s m e) (fin t n d) z h = both f s t m n e d z (none h)
  where
    none : Zero (fin s m e) ⊎ Zero (fin t n d) → m * n ≡ 0
    none (inl w) = ap (λ (x : ℕ). x * n) (zero-digits s m e w) ∙ zero-mul n
    none (inr w) = ap (λ (x : ℕ). m * x) (zero-digits t n d w) ∙ mul-zero m

-- ... and a sum that is no NaN: then the product is one
pub product-none : (f : Format) (x y z : Float) → Zero x ⊎ Zero y → T (not (is_nan (add f (mul f x y) z))) → Zero (mul f x y)
unfolding mul add is_nan
product-none f nan y z h k = absurd k
product-none f (inf s) nan z h k = absurd k
product-none f (inf s) (inf t) z (inl w) k = absurd (zero-finite (inf s) w)
product-none f (inf s) (inf t) z (inr w) k = absurd (zero-finite (inf t) w)
product-none f (inf s) (fin t n d) z (inl w) k = absurd (zero-finite (inf s) w)
product-none f (inf s) (fin t n d) z (inr w) k = absurd (subst (λ (x : ℕ). T (not (is_nan (add f (cond (eqb x 0) nan (inf (unlike s t))) z)))) (zero-digits t n d w) k)
product-none f (fin s m e) nan z h k = absurd k
product-none f (fin s m e) (inf t) z (inl w) k = absurd (subst (λ (x : ℕ). T (not (is_nan (add f (cond (eqb x 0) nan (inf (unlike s t))) z)))) (zero-digits s m e w) k)
product-none f (fin s m e) (inf t) z (inr w) k = absurd (zero-finite (inf t) w)
product-none f (fin s m e) (fin t n d) z h k =
    (unlike s t, (pos 0, ap (λ (x : ℕ). round f (unlike s t) x (down e * down d)) (none h) ∙ round-nought f (unlike s t) (down e * down d) (mul-pos (down_pos e) (down_pos d))))
  where
    none : Zero (fin s m e) ⊎ Zero (fin t n d) → m * up e * (n * up d) ≡ 0
    none (inl w) = ap (λ (x : ℕ). x * up e * (n * up d)) (zero-digits s m e w) ∙ simp (zero-mul)
    none (inr w) = ap (λ (x : ℕ). m * up e * (x * up d)) (zero-digits t n d w) ∙ simp (zero-mul, mul-zero)

-- ---- the third term is a zero, and no factor is

-- a sum with nothing
sum-nothing : (f : Format) (s t : Bool) (a c : ℕ) → 0 < a → sum f s a t 0 c ≡ round f s a c
unfolding sum
sum-nothing f s t a c h = go (beq s t)
  where
    kept-sign : (s : Bool) → s && true ≡ s
    kept-sign true = refl
    kept-sign false = refl

    go : (b : Bool) → cond b (round f s (a + 0) c) (cond (ltb a 0) (round f t (0 - a) c) (round f (s && ltb 0 a) (a - 0) c)) ≡ round f s a c
    go true = ap (λ (x : ℕ). round f s x c) (omega arith)
    go false =
        ap (λ (x : Bool). cond x (round f t (0 - a) c) (round f (s && ltb 0 a) (a - 0) c)) (le-ltb a 0 (omega arith))
        ∙ ap (λ (x : Bool). round f (s && x) (a - 0) c) (lt-ltb 0 a h)
        ∙ ap (λ (x : ℕ). round f (s && true) x c) (omega arith)
        ∙ ap (λ (x : Bool). round f x a c) (kept-sign s)

-- an infinity or a NaN stays
kept : (f : Format) (x y : Float) (t : Bool) (n : ℕ) (g : ℤ) → (T (not (finite x))) ⊎ (T (not (finite y))) → mul f x y ≡ add f (mul f x y) (fin t n g)
unfolding mul add
kept f nan y t n g h = refl
kept f (inf s) nan t n g h = refl
kept f (inf s) (inf u) t n g h = refl
kept f (inf s) (fin u m e) t n g h = go (eqb m 0)
  where
    go : (b : Bool) → cond b nan (inf (unlike s u)) ≡ add f (cond b nan (inf (unlike s u))) (fin t n g)
    go true = refl
    go false = refl
kept f (fin s m e) nan t n g h = refl
kept f (fin s m e) (inf u) t n g h = go (eqb m 0)
  where
    go : (b : Bool) → cond b nan (inf (unlike s u)) ≡ add f (cond b nan (inf (unlike s u))) (fin t n g)
    go true = refl
    go false = refl
kept f (fin s m e) (fin u k d) t n g (inl h) = absurd h
kept f (fin s m e) (fin u k d) t n g (inr h) = absurd h

third : (f : Format) (x y : Float) (t : Bool) (g : ℤ) → eq x (of_bits f 0) ≡ false → eq y (of_bits f 0) ≡ false → mul f x y ≡ fma f x y (fin t 0 g)
unfolding fma mul
third f nan y t g p q = kept f nan y t 0 g (inl tt) ∙ fma-plain f nan y (fin t 0 g) (inl tt)
third f (inf s) y t g p q = kept f (inf s) y t 0 g (inl tt) ∙ fma-plain f (inf s) y (fin t 0 g) (inl tt)
third f (fin s m e) nan t g p q = kept f (fin s m e) nan t 0 g (inr tt) ∙ fma-plain f (fin s m e) nan (fin t 0 g) (inr tt)
third f (fin s m e) (inf u) t g p q = kept f (fin s m e) (inf u) t 0 g (inr tt) ∙ fma-plain f (fin s m e) (inf u) (fin t 0 g) (inr tt)
third f (fin s m e) (fin u n d) t g p q =
    let A = m * up e * (n * up d) in
    let C = down e * down d in
    let C-pos = mul-pos (down_pos e) (down_pos d) in
    sym (sum-nothing f (unlike s u) t A C (mul-pos (mul-pos (not-zero f s m e p) (up_pos e)) (mul-pos (not-zero f u n d q) (up_pos d))))
    ∙ sym
    (add_at f (product (fin s m e) (fin u n d)) (fin t 0 g) (unlike s u) t A C 0 1 A 0 C C-pos (omega arith) C-pos
    (product_value (fin s m e) (fin u n d) s u (m * up e) (down e) (n * up d) (down d) (refl, refl) (refl, refl)) (refl, simp (zero-mul)) refl (simp (zero-mul)))

pub zero-third : (f : Format) (x y z : Float) → eq x (of_bits f 0) ≡ false → eq y (of_bits f 0) ≡ false → Zero z → mul f x y ≡ fma f x y z
zero-third f x y z p q w = rw w.1.1 (third f x y w.0 w.1.0 p q)
