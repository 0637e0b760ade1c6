-- The sum of a product and a third `f32`, taken as `f64`: the product is exact there, so it is one rounding to 53 digits of what `fma` rounds to 24. Where an operand is not finite both are the same.
-- Assumes nothing.
use mathlib.Core.Path.{◌≡◌, refl, sym, ap, ◌∙◌, subst}
use mathlib.Core.Logic.{◌⊎◌, inl, inr}
use Prim.Native.Nat.{ℕ, ◌+◌, ◌-◌, ◌*◌, ◌/◌, ◌%◌, ◌^◌, ◌≤◌, ◌<◌}
use native.Mathlib.Nat.{lt_of_lt_of_le, lt_of_le_of_lt, le_of_lt, le_trans, add-le-add, mul-le-mul_right, mul_assoc, mul_comm, mul-mul-mul_comm, mul-pos, mul-le-mul, eq-zero-or-pos, zero-mul, mul-sub, add-mul}
use native.Mathlib.Omega.{arith}
use mathlib.Core.Bool.{Bool, true, false, not, ◌&&◌, beq, cond, true≢false}
use lib.Dec.{T, leb, ltb, eqb, ltb→lt}
use lib.Pow.{pow-add, pow_pos, pow_mono, shl_lt}
use lib.Ieee.{Float, nan, inf, fin, Format, binary32, binary64, up, down, unlike, sum, add, mul, eq, round, fits, of_bits, to_bits, size, is_nan}
use lib.Ieee.Fits.{down_pos, up_pos}
use lib.Ieee.Digits.{size-le}
use lib.Ieee.Exact.{HasValue, round_exact}
use lib.Ieee.Bits.{of_bits-to_bits}
use lib.Ieee.Scale.{round_same, finite}
use Rattle.rounding.specs.Steps.{significand}
use Rattle.rounding.specs.Fma.{product, fma}
use Rattle.rounding.proofs.Values.{bits-value, add_at, fma-at}
use Rattle.rounding.proofs.Terms.{significand-lt, pattern-finite, product-plain, fma-plain, fma-third}
use Rattle.rounding.proofs.Zero.{Zero, is_zero, zero-eq, product-none}

-- ---- a finite `f32` by its digits
-- the exponent's field of an `f32`
abbrev pub field : Float → ℕ
field x = to_bits binary32 x % 2147483648 / 8388608

record Digits (x : Float) : Type 0 where
  sign : Bool
  m : ℕ
  j : ℕ
  few : m < 16777216
  most : j ≤ 254
  field-le : field x ≤ j + 1
  is : HasValue x sign (m * 2 ^ j) (2 ^ 149)

digits : (x : Float) → T (fits binary32 x) → T (finite x) → Digits x
digits x h k =
    let b = to_bits binary32 x in
    record {
      sign = leb 2147483648 b;
      m = significand 8388608 (b % 2147483648);
      j = b % 2147483648 / 8388608 - 1;
      few = significand-lt binary32 (b % 2147483648);
      most = omega arith;
      field-le = omega arith;
      is = subst (λ (z : Float). HasValue z (leb 2147483648 b) (significand 8388608 (b % 2147483648) * 2 ^ (b % 2147483648 / 8388608 - 1)) (2 ^ 149)) (of_bits-to_bits binary32 x h) (bits-value binary32 b (pattern-finite binary32 x h k));
    }

-- ---- the product of two, as an `f64`
cross : (p q u v e g a b l : ℕ) → p * u * l ≡ a * e → q * v * l ≡ b * g → p * u * (q * v) * (l * l) ≡ a * b * (e * g)
cross p q u v e g a b l h k = mul-mul-mul_comm (p * u) (q * v) l l ∙ ap (λ (x : ℕ). x * (q * v * l)) h ∙ ap (λ (x : ℕ). a * e * x) k ∙ mul-mul-mul_comm a e b g

mul-round : (f : Format) (x y : Float) (s t : Bool) (a b l : ℕ) → 0 < l → HasValue x s a l → HasValue y t b l → mul f x y ≡ round f (unlike s t) (a * b) (l * l)
unfolding mul
mul-round f nan y s t a b l L h k = absurd h
mul-round f (inf i) y s t a b l L h k = absurd h
mul-round f (fin i p e) nan s t a b l L h k = absurd k
mul-round f (fin i p e) (inf j) s t a b l L h k = absurd k
mul-round f (fin i p e) (fin j q g) s t a b l L (o, h) (r, k) =
    ap (λ (z : Bool). round f (unlike z j) (p * up e * (q * up g)) (down e * down g)) o
    ∙ ap (λ (z : Bool). round f (unlike s z) (p * up e * (q * up g)) (down e * down g)) r
    ∙ round_same f (unlike s t) (p * up e * (q * up g)) (down e * down g) (a * b) (l * l) (mul-pos (down_pos e) (down_pos g)) (mul-pos L L) (cross p q (up e) (up g) (down e) (down g) a b l h k)

mul-exact : (x y : Float) (s t : Bool) (m j n k : ℕ) → m < 16777216 → n < 16777216 → j ≤ 254 → k ≤ 254 → HasValue x s (m * 2 ^ j) (2 ^ 149) → HasValue y t (n * 2 ^ k) (2 ^ 149)
    → HasValue (mul binary64 x y) (unlike s t) (m * 2 ^ j * (n * 2 ^ k)) (2 ^ 149 * 2 ^ 149)
mul-exact x y s t m j n k a b c d h g =
    subst (λ (z : Float). HasValue z (unlike s t) (m * 2 ^ j * (n * 2 ^ k)) (2 ^ 149 * 2 ^ 149)) (sym (mul-round binary64 x y s t (m * 2 ^ j) (n * 2 ^ k) (2 ^ 149) (pow_pos 149) h g))
    (round_exact binary64 (unlike s t) (m * 2 ^ j * (n * 2 ^ k)) (2 ^ 149 * 2 ^ 149) (m * n) (j + k + 776) (mul-pos (pow_pos 149) (pow_pos 149)) small
    (lt_of_lt_of_le (shl_lt 53 (j + k + 776) small) (pow_mono {i = 53 + (j + k + 776)} {j = 2098} (omega arith)))
    (shift m n j k))
  where
    small : m * n < 2 ^ 53
    small = lt_of_le_of_lt (mul-le-mul {n₁ = m} {m₁ = n} {n₂ = 16777215} {m₂ = 16777215} (omega arith) (omega arith)) (omega arith)

    shift : (m n j k : ℕ) → m * 2 ^ j * (n * 2 ^ k) * 2 ^ 1074 ≡ m * n * 2 ^ (j + k + 776) * (2 ^ 149 * 2 ^ 149)
    shift m n j k =
        let e : 2 ^ (j + k + 776) ≡ 2 ^ j * 2 ^ k * 2 ^ 776 = pow-add 2 (j + k) 776 ∙ ap (λ (x : ℕ). x * 2 ^ 776) (pow-add 2 j k) in
        ap (λ (x : ℕ). x * 2 ^ 1074) (mul-mul-mul_comm m (2 ^ j) n (2 ^ k))
        ∙ sym (mul_assoc (m * n * (2 ^ j * 2 ^ k)) (2 ^ 776) (2 ^ 149 * 2 ^ 149))
        ∙ ap (λ (x : ℕ). x * (2 ^ 149 * 2 ^ 149)) (mul_assoc (m * n) (2 ^ j * 2 ^ k) (2 ^ 776) ∙ ap (λ (x : ℕ). m * n * x) (sym e))

-- ---- a sum rounds one number, whatever the format, and what divides both terms divides it
record Rounds (s t : Bool) (a b c : ℕ) : Type 0 where
  sign : Bool
  of : ℕ
  is : (f : Format) → sum f s a t b c ≡ round f sign of c
  most : of ≤ a + b
  whole : (g x y : ℕ) → a ≡ x * g → b ≡ y * g → (z : ℕ) × (of ≡ z * g)

rounds : (s t : Bool) (a b c : ℕ) → Rounds s t a b c
unfolding sum
rounds s t a b c = go (beq s t) (ltb a b) (λ f. refl)
  where
    minus : (a b g x y : ℕ) → a ≡ x * g → b ≡ y * g → a - b ≡ (x - y) * g
    minus a b g x y h k = omega (arith, mul_comm (x - y) g, mul-sub g x y, mul_comm g x, mul_comm g y)

    go : (p q : Bool) → ((f : Format) → sum f s a t b c ≡ cond p (round f s (a + b) c) (cond q (round f t (b - a) c) (round f (s && ltb b a) (a - b) c))) → Rounds s t a b c
    go true q e = record { sign = s; of = a + b; is = e; most = omega arith; whole = λ g x y h k. (x + y, omega (arith, add-mul x y g)) }
    go false true e = record { sign = t; of = b - a; is = e; most = omega arith; whole = λ g x y h k. (y - x, minus b a g y x k h) }
    go false false e = record { sign = s && ltb b a; of = a - b; is = e; most = omega arith; whole = λ g x y h k. (x - y, minus a b g x y h k) }

-- ---- both ways
term-x : (a : ℕ) → a * 2 ^ 1074 ≡ a * 2 ^ 776 * (2 ^ 149 * 2 ^ 149)
term-x a = sym (mul_assoc a (2 ^ 776) (2 ^ 149 * 2 ^ 149))

term-c : (a : ℕ) → a * 2 ^ 1074 ≡ a * 2 ^ 925 * 2 ^ 149
term-c a = sym (mul_assoc a (2 ^ 925) (2 ^ 149))

pub record Both (x y z : Float) : Type 0 where
  pub sign : Bool
  pub of : ℕ
  pub wide : add binary64 (mul binary64 x y) z ≡ round binary64 sign of (2 ^ 1074)
  pub narrow : fma binary32 x y z ≡ round binary32 sign of (2 ^ 1074)
  pub digits_le : size of ≤ 1333
  pub whole : (g : ℕ) → g ≤ field x + field y + 774 → g ≤ field z + 924 → (q : ℕ) × (of ≡ q * 2 ^ g)

pub both : (x y z : Float) → T (fits binary32 x) → T (fits binary32 y) → T (fits binary32 z) → T (finite x) → T (finite y) → T (finite z) → Both x y z
both x y z hx hy hz fx fy fz =
    let X = digits x hx fx in
    let Y = digits y hy fy in
    let Z = digits z hz fz in
    let a = X.m * 2 ^ X.j in
    let b = Y.m * 2 ^ Y.j in
    let c = Z.m * 2 ^ Z.j in
    let S = rounds (unlike X.sign Y.sign) Z.sign (a * b * 2 ^ 776) (c * 2 ^ 925) (2 ^ 1074) in
    record {
      sign = S.sign;
      of = S.of;
      wide =
          add_at binary64 (mul binary64 x y) z (unlike X.sign Y.sign) Z.sign (a * b) (2 ^ 149 * 2 ^ 149) c (2 ^ 149) (a * b * 2 ^ 776) (c * 2 ^ 925) (2 ^ 1074) (mul-pos (pow_pos 149) (pow_pos 149)) (pow_pos 149) (pow_pos 1074)
          (mul-exact x y X.sign Y.sign X.m X.j Y.m Y.j X.few Y.few X.most Y.most X.is Y.is) Z.is (term-x (a * b)) (term-c c) ∙ S.is binary64;
      narrow =
          fma-at binary32 x y z X.sign Y.sign Z.sign a b c (2 ^ 149) (a * b * 2 ^ 776) (c * 2 ^ 925) (2 ^ 1074) (pow_pos 149) (pow_pos 1074) X.is Y.is Z.is (term-x (a * b)) (term-c c) ∙ S.is binary32;
      digits_le = size-le S.of 1333 (few X.m Y.m Z.m X.j Y.j Z.j X.few Y.few Z.few X.most Y.most Z.most S.of S.most);
      whole = λ g h k.
          S.whole (2 ^ g) (X.m * Y.m * 2 ^ (X.j + Y.j + 776 - g)) (Z.m * 2 ^ (Z.j + 925 - g)) (moved X.m Y.m X.j Y.j g (omega (arith, X.field-le, Y.field-le))) (moved-c Z.m Z.j g (omega (arith, Z.field-le)));
    }
  where
    below : (m j : ℕ) → m < 16777216 → j ≤ 254 → m * 2 ^ j < 2 ^ 278
    below m j h k = lt_of_lt_of_le (shl_lt 24 j h) (pow_mono {i = 24 + j} {j = 278} (omega arith))

    few : (m n l j k i : ℕ) → m < 16777216 → n < 16777216 → l < 16777216 → j ≤ 254 → k ≤ 254 → i ≤ 254 → (t : ℕ) → t ≤ m * 2 ^ j * (n * 2 ^ k) * 2 ^ 776 + l * 2 ^ i * 2 ^ 925 → t < 2 ^ 1333
    few m n l j k i M N L J' K I' t h =
        let p : m * 2 ^ j * (n * 2 ^ k) ≤ 2 ^ 278 * 2 ^ 278 = mul-le-mul (le_of_lt (below m j M J')) (le_of_lt (below n k N K)) in
        let q : m * 2 ^ j * (n * 2 ^ k) * 2 ^ 776 ≤ 2 ^ 278 * 2 ^ 278 * 2 ^ 776 = mul-le-mul_right (2 ^ 776) p in
        let r : l * 2 ^ i * 2 ^ 925 ≤ 2 ^ 278 * 2 ^ 925 = mul-le-mul_right (2 ^ 925) (le_of_lt (below l i L I')) in
        lt_of_le_of_lt (le_trans h (add-le-add q r)) (ltb→lt (2 ^ 278 * 2 ^ 278 * 2 ^ 776 + 2 ^ 278 * 2 ^ 925) (2 ^ 1333) tt)

    split : (i g : ℕ) → g ≤ i → 2 ^ i ≡ 2 ^ (i - g) * 2 ^ g
    split i g h = ap (λ (x : ℕ). 2 ^ x) (again i g h) ∙ pow-add 2 (i - g) g
      where
        again : (i g : ℕ) → g ≤ i → i ≡ i - g + g
        again i g h = omega arith

    moved : (m n j k g : ℕ) → g ≤ j + k + 776 → m * 2 ^ j * (n * 2 ^ k) * 2 ^ 776 ≡ m * n * 2 ^ (j + k + 776 - g) * 2 ^ g
    moved m n j k g h =
        ap (λ (x : ℕ). x * 2 ^ 776) (mul-mul-mul_comm m (2 ^ j) n (2 ^ k) ∙ ap (λ (x : ℕ). m * n * x) (sym (pow-add 2 j k)))
        ∙ mul_assoc (m * n) (2 ^ (j + k)) (2 ^ 776)
        ∙ ap (λ (x : ℕ). m * n * x) (sym (pow-add 2 (j + k) 776) ∙ split (j + k + 776) g h)
        ∙ sym (mul_assoc (m * n) (2 ^ (j + k + 776 - g)) (2 ^ g))

    moved-c : (m j g : ℕ) → g ≤ j + 925 → m * 2 ^ j * 2 ^ 925 ≡ m * 2 ^ (j + 925 - g) * 2 ^ g
    moved-c m j g h = mul_assoc m (2 ^ j) (2 ^ 925) ∙ ap (λ (x : ℕ). m * x) (sym (pow-add 2 j 925) ∙ split (j + 925) g h) ∙ sym (mul_assoc m (2 ^ (j + 925 - g)) (2 ^ g))

-- ---- where an operand is not finite, nothing is rounded, in whatever format
product-finite : (x y : Float) → T (fits binary32 x) → T (fits binary32 y) → T (finite x) → T (finite y) → T (finite (mul binary64 x y))
product-finite x y hx hy fx fy =
    let X = digits x hx fx in
    let Y = digits y hy fy in
    has-finite (mul binary64 x y) _ _ _ (mul-exact x y X.sign Y.sign X.m X.j Y.m Y.j X.few Y.few X.most Y.most X.is Y.is)
  where
    has-finite : (x : Float) (s : Bool) (a c : ℕ) → HasValue x s a c → T (finite x)
    has-finite nan s a c h = absurd h
    has-finite (inf t) s a c h = absurd h
    has-finite (fin t m e) s a c h = tt

plus-third : (f : Format) (p z : Float) → T (finite p) → T (not (finite z)) → add f p z ≡ z
unfolding add
plus-third f nan z h k = absurd h
plus-third f (inf s) z h k = absurd h
plus-third f (fin s m e) nan h k = refl
plus-third f (fin s m e) (inf t) h k = refl
plus-third f (fin s m e) (fin t n d) h k = absurd k

not-both : (s t : Bool) (n : ℕ) → T (not (finite (cond (eqb n 0) nan (inf (unlike s t)))))
not-both s t n = go (eqb n 0)
  where
    go : (b : Bool) → T (not (finite (cond b nan (inf (unlike s t)))))
    go true = tt
    go false = tt

product-away : (x y : Float) → T (not (finite x)) ⊎ T (not (finite y)) → T (not (finite (product x y)))
unfolding product
product-away nan y h = tt
product-away (inf s) nan h = tt
product-away (inf s) (inf t) h = tt
product-away (inf s) (fin t n d) h = not-both s t n
product-away (fin s m e) nan h = tt
product-away (fin s m e) (inf t) h = not-both s t m
product-away (fin s m e) (fin t n d) (inl h) = absurd h
product-away (fin s m e) (fin t n d) (inr h) = absurd h

sum_away : (p z : Float) → T (not (finite p)) → (add binary64 p z ≡ add binary32 p z) × T (not (finite (add binary32 p z)))
unfolding add
sum_away nan z h = (refl, tt)
sum_away (inf s) nan h = (refl, tt)
sum_away (inf s) (inf t) h = (refl, go (beq s t))
  where
    go : (b : Bool) → T (not (finite (cond b (inf s) nan)))
    go true = tt
    go false = tt
sum_away (inf s) (fin t n d) h = (refl, tt)
sum_away (fin s m e) z h = absurd h

abbrev pub Plain : Float → Float → Float → Type 0
Plain x y z = (add binary64 (mul binary64 x y) z ≡ fma binary32 x y z) × T (not (finite (fma binary32 x y z)))

plain-product : (x y z : Float) → T (not (finite x)) ⊎ T (not (finite y)) → Plain x y z
unfolding fma
plain-product x y z h = let a = sum_away (product x y) z (product-away x y h) in (fma-plain binary64 x y z h ∙ a.0, a.1)

plain-third : (x y z : Float) → T (fits binary32 x) → T (fits binary32 y) → T (finite x) → T (finite y) → T (not (finite z)) → Plain x y z
plain-third x y z hx hy fx fy k =
    let e = fma-third binary32 x y z fx fy k in
    (plus-third binary64 (mul binary64 x y) z (product-finite x y hx hy fx fy) k ∙ e, subst (λ (w : Float). T (not (finite w))) e k)

either-finite : (x : Float) → T (finite x) ⊎ T (not (finite x))
either-finite nan = inr tt
either-finite (inf s) = inr tt
either-finite (fin s m e) = inl tt

pub clash : (x : Float) → T (finite x) → T (not (finite x)) → ⊥
clash nan h k = h
clash (inf s) h k = h
clash (fin s m e) h k = k

-- ---- where the product is a zero, a factor is
value_none : (x : Float) (s : Bool) (c : ℕ) → 0 < c → HasValue x s 0 c → Zero x
value_none nan s c C h = absurd h
value_none (inf t) s c C h = absurd h
value_none (fin t m e) s c C (p, h) = (t, (e, ap (λ (n : ℕ). fin t n e) (elim (eq-zero-or-pos m) [ inl z ↦ z | inr k ↦ absurd (none (m * up e * c) (mul-pos (mul-pos k (up_pos e)) C) (h ∙ zero-mul (down e))) ])))
  where
    none : (n : ℕ) → 0 < n → n ≡ 0 → ⊥
    none n a b = omega arith

product-factor : (x y : Float) → T (fits binary32 x) → T (fits binary32 y) → T (finite x) → T (finite y) → Zero (mul binary64 x y) → Zero x ⊎ Zero y
product-factor x y hx hy fx fy w =
    let X = digits x hx fx in
    let Y = digits y hy fy in
    let a = X.m * 2 ^ X.j in
    let b = Y.m * 2 ^ Y.j in
    let v = subst (λ (r : Float). HasValue r (unlike X.sign Y.sign) (a * b) (2 ^ 149 * 2 ^ 149)) w.1.1 (mul-exact x y X.sign Y.sign X.m X.j Y.m Y.j X.few Y.few X.most Y.most X.is Y.is) in
    go X Y v.1
  where
    none : (n : ℕ) → 0 < n → n ≡ 0 → ⊥
    none n a b = omega arith

    go : (X : Digits x) (Y : Digits y) → 0 * up w.1.0 * (2 ^ 149 * 2 ^ 149) ≡ X.m * 2 ^ X.j * (Y.m * 2 ^ Y.j) * down w.1.0 → Zero x ⊎ Zero y
    go X Y h =
        elim (eq-zero-or-pos X.m) [
          | inl z ↦ inl (value_none x X.sign (2 ^ 149) (pow_pos 149) (subst (λ (n : ℕ). HasValue x X.sign n (2 ^ 149)) (ap (λ (n : ℕ). n * 2 ^ X.j) z ∙ zero-mul (2 ^ X.j)) X.is))
          | inr p ↦
              elim (eq-zero-or-pos Y.m) [
                | inl z ↦ inr (value_none y Y.sign (2 ^ 149) (pow_pos 149) (subst (λ (n : ℕ). HasValue y Y.sign n (2 ^ 149)) (ap (λ (n : ℕ). n * 2 ^ Y.j) z ∙ zero-mul (2 ^ Y.j)) Y.is))
                | inr q ↦ absurd (none _ (mul-pos (mul-pos (mul-pos p (pow_pos X.j)) (mul-pos q (pow_pos Y.j))) (down_pos w.1.0)) (sym h ∙ simp (zero-mul)))
              ]
        ]

pub product-zero : (x y : Float) → T (fits binary32 x) → T (fits binary32 y) → eq (mul binary64 x y) (of_bits binary64 0) ≡ true → Zero x ⊎ Zero y
product-zero x y hx hy h =
    let w = is_zero binary64 (mul binary64 x y) h in
    elim (either-finite x) [
      | inr k ↦ absurd (away w (inl k))
      | inl fx ↦ elim (either-finite y) [ inr k ↦ absurd (away w (inr k)) | inl fy ↦ product-factor x y hx hy fx fy w ]
    ]
  where
    away : Zero (mul binary64 x y) → T (not (finite x)) ⊎ T (not (finite y)) → ⊥
    away w k = clash (mul binary64 x y) (subst (λ (v : Float). T (finite v)) (sym w.1.1) tt) (subst (λ (v : Float). T (not (finite v))) (sym (product-plain binary64 x y k)) (product-away x y k))

-- ... and where it is none, of a sum that is no NaN, no factor is
pub product-some : (x y z : Float) → T (not (is_nan (add binary64 (mul binary64 x y) z))) → eq (mul binary64 x y) (of_bits binary64 0) ≡ false
    → (eq x (of_bits binary32 0) ≡ false) × (eq y (of_bits binary32 0) ≡ false)
product-some x y z k h = (some (eq x (of_bits binary32 0)) (λ t. none (inl (is_zero binary32 x t))), some (eq y (of_bits binary32 0)) (λ t. none (inr (is_zero binary32 y t))))
  where
    none : Zero x ⊎ Zero y → ⊥
    none w = true≢false (sym (zero-eq binary64 (mul binary64 x y) (product-none binary64 x y z w k)) ∙ h)

    some : (b : Bool) → (b ≡ true → ⊥) → b ≡ false
    some true n = absurd (n refl)
    some false n = refl

-- ---- three `f32`, whatever they are
module _ (x y z : Float) (hx : T (fits binary32 x)) (hy : T (fits binary32 y)) (hz : T (fits binary32 z)) where
  plain-or-finite : Plain x y z ⊎ (T (finite x) × (T (finite y) × T (finite z)))
  plain-or-finite =
      elim (either-finite x) [
        | inr h ↦ inl (plain-product x y z (inl h))
        | inl fx ↦
            elim (either-finite y) [
              | inr h ↦ inl (plain-product x y z (inr h))
              | inl fy ↦ elim (either-finite z) [ inr h ↦ inl (plain-third x y z hx hy fx fy h) | inl fz ↦ inr (fx, (fy, fz)) ]
            ]
      ]

  pub once : Plain x y z ⊎ Both x y z
  once = elim plain-or-finite [ inl p ↦ inl p | inr o ↦ inr (both x y z hx hy hz o.0 o.1.0 o.1.1) ]

  -- a sum that is finite has operands that are
  pub finite-operands : T (finite (add binary64 (mul binary64 x y) z)) → T (finite x) × (T (finite y) × T (finite z))
  finite-operands h =
      elim plain-or-finite [
        | inl p ↦ absurd (clash (add binary64 (mul binary64 x y) z) h (subst (λ (v : Float). T (not (finite v))) (sym p.0) p.1))
        | inr o ↦ o
      ]
