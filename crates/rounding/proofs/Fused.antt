-- The two terms of `fma`, put side by side: the one with the smaller exponent is cut to an odd number, and the sum rounds as before. Once for both formats. Assumes nothing.
use mathlib.Core.Path.{◌≡◌, refl, sym, ap, ◌∙◌, subst}
use mathlib.Core.Logic.{◌⊎◌, inl, inr}
use Prim.Native.Nat.{ℕ, suc, ◌+◌, ◌-◌, ◌*◌, ◌/◌, ◌%◌, ◌^◌, ◌≤◌, ◌<◌, max}
use native.Mathlib.Nat.{le_trans, le_of_eq, lt_of_lt_of_le, add_comm, mul_comm, one-mul, mul_assoc, mul_left_comm, mul-sub, add-mul, mul-le-mul_right, mul-lt-mul_of_pos_right, mul-div_cancel, mul-mod_left, div-add-mod', div-lt_iff_lt-mul, mod-lt, mod-one, div-one, pow-succ'}
use native.Mathlib.Omega.{arith}
use mathlib.Core.Bool.{Bool, true, false, not, ◌&&◌, beq, cond}
use lib.Dec.{T, ltb, eqb, lt→ltb, eqb→eq}
use lib.Arith.{le→nltb}
use lib.Pow.{pow-add, pow_pos, pow_mono, shl_lt}
use lib.Ieee.{Format, binary32, binary64, prec, low, sum, round}
use lib.Ieee.Bits.{is_true, is_false}
use Rattle.rounding.specs.Steps.{Sticky, stick}
use Rattle.rounding.proofs.Sticky.{sticky-add, sticky-less, sticky-from, sticky-twice, sticky-unique, under-even, over-even}
use Rattle.rounding.proofs.Round.{round-sticky}
use Rattle.rounding.proofs.Closest.{le-or-lt}

-- ---- `stick`
cut-odd : (a g q r : ℕ) → q * g + r ≡ a → 0 < r → r < g → Sticky (q + (1 - q % 2)) a g
cut-odd a g q r e p h =
    let i = q / 2 in
    let t : 2 * i * g ≤ q * g = mul-le-mul_right g (omega arith) in
    let u : (q + 1) * g ≤ (2 * i + 2) * g = mul-le-mul_right g (omega arith) in
    let v : (q + 1) * g ≡ q * g + g = add-mul q 1 g ∙ ap (λ (x : ℕ). q * g + x) (one-mul g) in
    inr (i, omega arith, omega arith, omega arith)

pub stick-is : (a s : ℕ) → Sticky (stick a s) a (2 ^ s)
unfolding stick
stick-is a s = go (eqb (a % 2 ^ s) 0) (eqb→eq (a % 2 ^ s) 0) (λ (h : a % 2 ^ s ≡ 0). subst (λ (x : ℕ). T (eqb x 0)) (sym h) tt)
  where
    whole : a / 2 ^ s * 2 ^ s + a % 2 ^ s ≡ a
    whole = div-add-mod' a (2 ^ s)

    some : (r : ℕ) → (r ≡ 0 → ⊥) → 0 < r
    some r n = elim (le-or-lt r 0) [ inl h ↦ absurd (n (omega arith)) | inr h ↦ h ]

    go : (b : Bool) → (T b → a % 2 ^ s ≡ 0) → (a % 2 ^ s ≡ 0 → T b) → Sticky (cond b (a / 2 ^ s) (a / 2 ^ s + (1 - a / 2 ^ s % 2))) a (2 ^ s)
    go true h k = let z = h tt in inl (omega (arith, whole))
    go false h k = cut-odd a (2 ^ s) (a / 2 ^ s) (a % 2 ^ s) whole (some (a % 2 ^ s) k) (mod-lt a (pow_pos s))

pub stick-twice : (a i j : ℕ) → stick (stick a i) j ≡ stick a (j + i)
stick-twice a i j =
    sticky-unique (stick (stick a i) j) (stick a (j + i)) a (2 ^ (j + i)) (pow_pos (j + i))
    (subst (λ (z : ℕ). Sticky (stick (stick a i) j) a z) (sym (pow-add 2 j i)) (sticky-twice (stick (stick a i) j) (stick a i) a (2 ^ i) (2 ^ j) (pow_pos i) (stick-is a i) (stick-is (stick a i) j)))
    (stick-is a (j + i))

pub stick-le : (a s : ℕ) → stick a s ≤ a / 2 ^ s + 1
unfolding stick
stick-le a s = go (eqb (a % 2 ^ s) 0)
  where
    go : (b : Bool) → cond b (a / 2 ^ s) (a / 2 ^ s + (1 - a / 2 ^ s % 2)) ≤ a / 2 ^ s + 1
    go true = omega arith
    go false = omega arith

pub stick-whole : (a s : ℕ) → a % 2 ^ s ≡ 0 → stick a s ≡ a / 2 ^ s
unfolding stick
stick-whole a s h = ap (λ (x : ℕ). cond (eqb x 0) (a / 2 ^ s) (a / 2 ^ s + (1 - a / 2 ^ s % 2))) h

pub stick-zero : (a : ℕ) → stick a 0 ≡ a
stick-zero a = stick-whole a 0 (mod-one a) ∙ div-one a

-- a number with g zeros at its end loses nothing at a shift of g or less
pub stick-exact : (p g s : ℕ) → s ≤ g → stick (p * 2 ^ g) s * 2 ^ s ≡ p * 2 ^ g
stick-exact p g s h =
    let a-is : p * 2 ^ g ≡ p * 2 ^ (g - s) * 2 ^ s = ap (λ (x : ℕ). p * 2 ^ x) (again s g h) ∙ ap (λ (x : ℕ). p * x) (pow-add 2 (g - s) s) ∙ sym (mul_assoc p (2 ^ (g - s)) (2 ^ s)) in
    let z : p * 2 ^ g % 2 ^ s ≡ 0 = ap (λ (x : ℕ). x % 2 ^ s) a-is ∙ mul-mod_left (p * 2 ^ (g - s)) (2 ^ s) in
    ap (λ (x : ℕ). x * 2 ^ s) (stick-whole (p * 2 ^ g) s z ∙ ap (λ (x : ℕ). x / 2 ^ s) a-is ∙ mul-div_cancel (p * 2 ^ (g - s)) (pow_pos s)) ∙ sym a-is
  where
    again : (x y : ℕ) → x ≤ y → y ≡ y - x + x
    again x y k = omega arith

-- ---- `sum` by its cases
pub sum_like : (f : Format) (s t : Bool) (a b c : ℕ) → T (beq s t) → sum f s a t b c ≡ round f s (a + b) c
unfolding sum
sum_like f s t a b c h = ap (λ (x : Bool). cond x (round f s (a + b) c) (cond (ltb a b) (round f t (b - a) c) (round f (s && ltb b a) (a - b) c))) (is_true (beq s t) h)

pub sum_less : (f : Format) (s t : Bool) (a b c : ℕ) → T (not (beq s t)) → a < b → sum f s a t b c ≡ round f t (b - a) c
unfolding sum
sum_less f s t a b c h l =
    ap (λ (x : Bool). cond x (round f s (a + b) c) (cond (ltb a b) (round f t (b - a) c) (round f (s && ltb b a) (a - b) c))) (is_false (beq s t) h)
    ∙ ap (λ (x : Bool). cond x (round f t (b - a) c) (round f (s && ltb b a) (a - b) c)) (is_true (ltb a b) (lt→ltb a b l))

pub sum_more : (f : Format) (s t : Bool) (a b c : ℕ) → T (not (beq s t)) → b < a → sum f s a t b c ≡ round f s (a - b) c
unfolding sum
sum_more f s t a b c h l =
    ap (λ (x : Bool). cond x (round f s (a + b) c) (cond (ltb a b) (round f t (b - a) c) (round f (s && ltb b a) (a - b) c))) (is_false (beq s t) h)
    ∙ ap (λ (x : Bool). cond x (round f t (b - a) c) (round f (s && ltb b a) (a - b) c)) (is_false (ltb a b) (le→nltb a b (omega arith)))
    ∙ ap (λ (x : Bool). round f (s && x) (a - b) c) (is_true (ltb b a) (lt→ltb b a l))
    ∙ ap (λ (x : Bool). round f x (a - b) c) (and-true s)
  where
    and-true : (b : Bool) → b && true ≡ b
    and-true true = refl
    and-true false = refl

pub sum-none : (f : Format) (s t : Bool) (a c : ℕ) → T (not (beq s t)) → sum f s a t a c ≡ round f false 0 c
unfolding sum
sum-none f s t a c h =
    ap (λ (x : Bool). cond x (round f s (a + a) c) (cond (ltb a a) (round f t (a - a) c) (round f (s && ltb a a) (a - a) c))) (is_false (beq s t) h)
    ∙ ap (λ (x : Bool). cond x (round f t (a - a) c) (round f (s && x) (a - a) c)) (is_false (ltb a a) (le→nltb a a (omega arith)))
    ∙ ap (λ (x : Bool). round f x (a - a) c) (and-false s)
    ∙ ap (λ (x : ℕ). round f false x c) (none a)
  where
    and-false : (b : Bool) → b && false ≡ false
    and-false true = refl
    and-false false = refl

    none : (x : ℕ) → x - x ≡ 0
    none x = omega arith

same_or_not : (b : Bool) → T b ⊎ T (not b)
same_or_not true = inl tt
same_or_not false = inr tt

-- ---- one term is cut to an odd number
-- S stands for A, the other term is the even number 2 * M, both times 2 ^ j
module _ (f : Format) (S A M j d : ℕ) (st : Sticky S A (2 ^ j)) (far : (j + 2 ≤ d) ⊎ (S + 2 ^ (prec f + 1) ≤ 2 * M)) where
  added : (s : Bool) → round f s (A + 2 * M * 2 ^ j) (2 ^ (d + low f)) ≡ round f s (S * 2 ^ j + 2 * M * 2 ^ j) (2 ^ (d + low f))
  added s =
      ap (λ (x : ℕ). round f s x (2 ^ (d + low f))) (add_comm A (2 * M * 2 ^ j))
      ∙ round-sticky f s (2 * M + S) (2 * M * 2 ^ j + A) j d (sticky-add S A (2 ^ j) M st) (elim far [ inl h ↦ inr h | inr h ↦ inl (omega arith) ])
      ∙ ap (λ (x : ℕ). round f s x (2 ^ (d + low f))) (add-mul (2 * M) S (2 ^ j) ∙ add_comm (2 * M * 2 ^ j) (S * 2 ^ j))

  taken : (s : Bool) → S ≤ 2 * M → round f s (2 * M * 2 ^ j - A) (2 ^ (d + low f)) ≡ round f s (2 * M * 2 ^ j - S * 2 ^ j) (2 ^ (d + low f))
  taken s h =
      round-sticky f s (2 * M - S) (2 * M * 2 ^ j - A) j d (sticky-from S A (2 ^ j) M h st) (elim far [ inl k ↦ inr k | inr k ↦ inl (omega arith) ])
      ∙ ap (λ (x : ℕ). round f s x (2 ^ (d + low f))) (times-sub (2 * M) S (2 ^ j))
    where
      times-sub : (a b g : ℕ) → (a - b) * g ≡ a * g - b * g
      times-sub a b g = mul_comm (a - b) g ∙ mul-sub g a b ∙ omega (arith, mul_comm g a, mul_comm g b)

  left : (s : Bool) → 2 * M ≤ S → round f s (A - 2 * M * 2 ^ j) (2 ^ (d + low f)) ≡ round f s (S * 2 ^ j - 2 * M * 2 ^ j) (2 ^ (d + low f))
  left s h =
      round-sticky f s (S - 2 * M) (A - 2 * M * 2 ^ j) j d (sticky-less S A (2 ^ j) M h st) (elim far [ inl k ↦ inr k | inr k ↦ absurd (clash k) ])
      ∙ ap (λ (x : ℕ). round f s x (2 ^ (d + low f))) (times-sub S (2 * M) (2 ^ j))
    where
      times-sub : (a b g : ℕ) → (a - b) * g ≡ a * g - b * g
      times-sub a b g = mul_comm (a - b) g ∙ mul-sub g a b ∙ omega (arith, mul_comm g a, mul_comm g b)

      clash : S + 2 ^ (prec f + 1) ≤ 2 * M → ⊥
      clash k = let p = pow_pos (prec f + 1) in omega arith

  -- S is odd, so it is not 2 * M
  settle-odd : (s t : Bool) (i : ℕ) → S ≡ 2 * i + 1 → sum f s A t (2 * M * 2 ^ j) (2 ^ (d + low f)) ≡ sum f s (S * 2 ^ j) t (2 * M * 2 ^ j) (2 ^ (d + low f))
  settle-odd s t i e =
      let b = 2 * M * 2 ^ j in
      let c = 2 ^ (d + low f) in
      elim (same_or_not (beq s t)) [
        | inl h ↦ sum_like f s t A b c h ∙ added s ∙ sym (sum_like f s t (S * 2 ^ j) b c h)
        | inr h ↦
            elim (le-or-lt S (2 * M)) [
              | inl k ↦
                  let k' : S < 2 * M = omega arith in
                  sum_less f s t A b c h (under-even S A (2 ^ j) M (pow_pos j) st k') ∙ taken t k ∙ sym (sum_less f s t (S * 2 ^ j) b c h (mul-lt-mul_of_pos_right k' (pow_pos j)))
              | inr k ↦
                  sum_more f s t A b c h (over-even S A (2 ^ j) M (pow_pos j) st k) ∙ left s (omega arith) ∙ sym (sum_more f s t (S * 2 ^ j) b c h (mul-lt-mul_of_pos_right k (pow_pos j)))
            ]
      ]

settle : (f : Format) (S A M j d : ℕ) → Sticky S A (2 ^ j) → (S * 2 ^ j ≡ A) ⊎ ((j + 2 ≤ d) ⊎ (S + 2 ^ (prec f + 1) ≤ 2 * M)) → (s t : Bool)
    → sum f s A t (2 * M * 2 ^ j) (2 ^ (d + low f)) ≡ sum f s (S * 2 ^ j) t (2 * M * 2 ^ j) (2 ^ (d + low f))
settle f S A M j d st (inl e) s t = ap (λ (x : ℕ). sum f s x t (2 * M * 2 ^ j) (2 ^ (d + low f))) (sym e)
settle f S A M j d (inl e) (inr far) s t = ap (λ (x : ℕ). sum f s x t (2 * M * 2 ^ j) (2 ^ (d + low f))) (sym e)
settle f S A M j d (inr (i, e, lo, hi)) (inr far) s t = settle-odd f S A M j d (inr (i, e, lo, hi)) far s t i e

beq_flip : (s t : Bool) → beq s t ≡ beq t s
beq_flip true true = refl
beq_flip true false = refl
beq_flip false true = refl
beq_flip false false = refl

beq-eq : (s t : Bool) → T (beq s t) → s ≡ t
beq-eq true true h = refl
beq-eq true false h = absurd h
beq-eq false true h = absurd h
beq-eq false false h = refl

-- the terms the other way round
sum-flip : (f : Format) (s t : Bool) (a b c : ℕ) → sum f s a t b c ≡ sum f t b s a c
sum-flip f s t a b c =
    elim (same_or_not (beq s t)) [
      | inl h ↦
          sum_like f s t a b c h ∙ ap (λ (x : ℕ). round f s x c) (add_comm a b) ∙ ap (λ (x : Bool). round f x (b + a) c) (beq-eq s t h) ∙ sym (sum_like f t s b a c (subst T (beq_flip s t) h))
      | inr h ↦
          let h' = subst (λ (x : Bool). T (not x)) (beq_flip s t) h in
          elim (le-or-lt a b) [
            | inl k ↦
                elim (le-or-lt b a) [
                  | inl l ↦
                      let e : a ≡ b = omega arith in
                      ap (λ (x : ℕ). sum f s x t b c) e ∙ sum-none f s t b c h ∙ sym (sum-none f t s b c h') ∙ ap (λ (x : ℕ). sum f t b s x c) (sym e)
                  | inr l ↦ sum_less f s t a b c h l ∙ sym (sum_more f t s b a c h' l)
                ]
            | inr k ↦ sum_more f s t a b c h k ∙ sym (sum_less f t s b a c h' k)
          ]
    ]

-- ---- the numbers of each format
-- The product of two significands has `lift` zeros put after it and the third significand `lift-c`, so that both have `lift + 2 * prec` digits at most. The third exponent then counts from `start`.
abbrev pub lift : Format → ℕ
lift binary32 = 14
lift binary64 = 18

abbrev pub lift-c : Format → ℕ
lift-c f = lift f + prec f

abbrev pub start : Format → ℕ
start f = low f - prec f

-- the sum's unit is 2 ^ -deep of the smallest value
abbrev pub deep : Format → ℕ
deep f = low f + lift f

from_start : (f : Format) (y : ℕ) → y ≡ start f → y + 2 ≤ deep f
from_start binary32 y e = omega arith
from_start binary64 y e = omega arith

-- a cut product below a third term of all its digits
room-x : (f : Format) (q t : ℕ) → q < 2 ^ (2 * prec f - 1) → 2 ^ (prec f - 1) * 2 ^ lift-c f ≤ t → q + 1 + 2 ^ (prec f + 1) ≤ t
room-x binary32 q t h k = omega arith
room-x binary64 q t h k = omega arith

-- a cut third term below a product of one significand's digits
room-y : (f : Format) (q t : ℕ) → q < 2 ^ (prec f - 1) → 2 ^ (prec f - 1) * 2 ^ lift f ≤ t → q + 1 + 2 ^ (prec f + 1) ≤ t
room-y binary32 q t h k = omega arith
room-y binary64 q t h k = omega arith

lift-pos : (f : Format) → 1 ≤ lift f
lift-pos binary32 = omega arith
lift-pos binary64 = omega arith

prec-pos : (f : Format) → 1 ≤ prec f
prec-pos binary32 = omega arith
prec-pos binary64 = omega arith

-- a / 2 ^ s is short where a is, and s is long
short : (a i g s : ℕ) → a < 2 ^ (i + g) → g ≤ s → a / 2 ^ s < 2 ^ i
short a i g s h k = (div-lt_iff_lt-mul (pow_pos s)).1 (lt_of_lt_of_le h (le_trans (pow_mono {i = i + g} {j = i + s} (omega arith)) (le_of_eq (pow-add 2 i s))))

even : (p g : ℕ) → 1 ≤ g → p * 2 ^ g ≡ 2 * (p * 2 ^ (g - 1))
even p g h = ap (λ (x : ℕ). p * 2 ^ x) (again g h) ∙ ap (λ (x : ℕ). p * x) (pow-succ' 2 (g - 1)) ∙ mul_left_comm p 2 (2 ^ (g - 1))
  where
    again : (x : ℕ) → 1 ≤ x → x ≡ suc (x - 1)
    again x k = omega arith

-- ---- from A / 2 ^ s to A * 2 ^ x / 2 ^ (x + s)
pub scaled : (N A g c : ℕ) → 0 < c → Sticky N A g → Sticky N (A * c) (g * c)
scaled N A g c C (inl e) = inl (sym (mul_assoc N g c) ∙ ap (λ (x : ℕ). x * c) e)
scaled N A g c C (inr (h, e, lo, hi)) =
    inr (h, e, subst (λ (x : ℕ). x < A * c) (mul_assoc (2 * h) g c) (mul-lt-mul_of_pos_right lo C), subst (λ (x : ℕ). A * c < x) (mul_assoc (2 * h + 2) g c) (mul-lt-mul_of_pos_right hi C))

moved_up : (a x y : ℕ) → x ≤ y → Sticky (stick a (y - x)) (a * 2 ^ x) (2 ^ y)
moved_up a x y h = subst (λ (z : ℕ). Sticky (stick a (y - x)) (a * 2 ^ x) z) (sym (pow-add 2 (y - x) x) ∙ ap (λ (z : ℕ). 2 ^ z) (again x y h)) (scaled (stick a (y - x)) a (2 ^ (y - x)) (2 ^ x) (pow_pos x) (stick-is a (y - x)))
  where
    again : (u v : ℕ) → u ≤ v → v - u + u ≡ v
    again u v k = omega arith

exact-up : (p g x y : ℕ) → x ≤ y → y - x ≤ g → stick (p * 2 ^ g) (y - x) * 2 ^ y ≡ p * 2 ^ g * 2 ^ x
exact-up p g x y h k =
    ap (λ (z : ℕ). stick (p * 2 ^ g) (y - x) * z) (ap (λ (z : ℕ). 2 ^ z) (again x y h) ∙ pow-add 2 (y - x) x) ∙ sym (mul_assoc (stick (p * 2 ^ g) (y - x)) (2 ^ (y - x)) (2 ^ x)) ∙ ap (λ (z : ℕ). z * 2 ^ x) (stick-exact p g (y - x) k)
  where
    again : (u v : ℕ) → u ≤ v → v ≡ v - u + u
    again u v l = omega arith

-- ---- the theorem
-- p is the product of the significands, with the exponent x, and c the third significand, with the exponent k. Each has all its digits, or an exponent that is as small as can be.
module _ (f : Format) (p x c k : ℕ) (p-lt : p < 2 ^ (2 * prec f)) (c_lt : c < 2 ^ prec f)
    (p-ok : (x ≡ 0) ⊎ (2 ^ (prec f - 1) ≤ p)) (c-ok : (k ≡ 0) ⊎ (2 ^ (prec f - 1) ≤ c)) where
  far-x : x < k + start f → (stick (p * 2 ^ lift f) (k + start f - x) * 2 ^ (k + start f) ≡ p * 2 ^ lift f * 2 ^ x)
      ⊎ ((k + start f + 2 ≤ deep f) ⊎ (stick (p * 2 ^ lift f) (k + start f - x) + 2 ^ (prec f + 1) ≤ c * 2 ^ lift-c f))
  far-x l =
      elim (le-or-lt (k + start f - x) (lift f)) [
        | inl h ↦ inl (exact-up p (lift f) x (k + start f) (omega arith) h)
        | inr h ↦
            elim c-ok [
              | inl z ↦ inr (inl (from_start f (k + start f) (omega arith)))
              | inr m ↦
                  let a = p * 2 ^ lift f in
                  let s = k + start f - x in
                  let a_lt : a < 2 ^ (2 * prec f + lift f) = shl_lt (2 * prec f) (lift f) p-lt in
                  let pp = prec-pos f in
                  let q-lt : a / 2 ^ s < 2 ^ (2 * prec f - 1) = short a (2 * prec f - 1) (lift f + 1) s (subst (λ (z : ℕ). a < 2 ^ z) (regroup (2 * prec f) (lift f) (omega arith)) a_lt) (omega arith) in
                  let t-ge : 2 ^ (prec f - 1) * 2 ^ lift-c f ≤ c * 2 ^ lift-c f = mul-le-mul_right (2 ^ lift-c f) m in
                  let r = room-x f (a / 2 ^ s) (c * 2 ^ lift-c f) q-lt t-ge in
                  let b = stick-le a s in
                  inr (inr (omega arith))
            ]
      ]
    where
      regroup : (u v : ℕ) → 1 ≤ u → u + v ≡ u - 1 + (v + 1)
      regroup u v h = omega arith

  far-y : k + start f ≤ x → (stick (c * 2 ^ lift-c f) (x - (k + start f)) * 2 ^ x ≡ c * 2 ^ lift-c f * 2 ^ (k + start f))
      ⊎ ((x + 2 ≤ deep f) ⊎ (stick (c * 2 ^ lift-c f) (x - (k + start f)) + 2 ^ (prec f + 1) ≤ p * 2 ^ lift f))
  far-y l =
      elim (le-or-lt (x - (k + start f)) (lift-c f)) [
        | inl h ↦ inl (exact-up c (lift-c f) (k + start f) x l h)
        | inr h ↦
            elim p-ok [
              | inl z ↦ absurd (omega arith)
              | inr m ↦
                  let a = c * 2 ^ lift-c f in
                  let s = x - (k + start f) in
                  let pp = prec-pos f in
                  let a_lt : a < 2 ^ (prec f + lift-c f) = shl_lt (prec f) (lift-c f) c_lt in
                  let q-lt : a / 2 ^ s < 2 ^ (prec f - 1) = short a (prec f - 1) (lift-c f + 1) s (subst (λ (z : ℕ). a < 2 ^ z) (regroup (prec f) (lift-c f) pp) a_lt) (omega arith) in
                  let t-ge : 2 ^ (prec f - 1) * 2 ^ lift f ≤ p * 2 ^ lift f = mul-le-mul_right (2 ^ lift f) m in
                  let r = room-y f (a / 2 ^ s) (p * 2 ^ lift f) q-lt t-ge in
                  let b = stick-le a s in
                  inr (inr (omega arith))
            ]
      ]
    where
      regroup : (u v : ℕ) → 1 ≤ u → u + v ≡ u - 1 + (v + 1)
      regroup u v h = omega arith

  pub fused : (s t : Bool) → sum f s (p * 2 ^ lift f * 2 ^ x) t (c * 2 ^ lift-c f * 2 ^ (k + start f)) (2 ^ (deep f + low f))
      ≡ sum f s (stick (p * 2 ^ lift f) (k + start f - x) * 2 ^ max x (k + start f)) t (stick (c * 2 ^ lift-c f) (x - (k + start f)) * 2 ^ max x (k + start f)) (2 ^ (deep f + low f))
  fused s t =
      let a = p * 2 ^ lift f in
      let b = c * 2 ^ lift-c f in
      let y = k + start f in
      let den = 2 ^ (deep f + low f) in
      elim (le-or-lt y x) [
        | inl l ↦
            let m : max x y ≡ x = omega arith in
            let e : a ≡ 2 * (p * 2 ^ (lift f - 1)) = even p (lift f) (lift-pos f) in
            let S = stick b (x - y) in
            sum-flip f s t (a * 2 ^ x) (b * 2 ^ y) den
            ∙ ap (λ (z : ℕ). sum f t (b * 2 ^ y) s (z * 2 ^ x) den) e
            ∙ settle f S (b * 2 ^ y) (p * 2 ^ (lift f - 1)) x (deep f) (moved_up b y x l) (subst (λ (z : ℕ). (S * 2 ^ x ≡ b * 2 ^ y) ⊎ ((x + 2 ≤ deep f) ⊎ (S + 2 ^ (prec f + 1) ≤ z))) e (far-y l)) t s
            ∙ ap (λ (z : ℕ). sum f t (S * 2 ^ x) s (z * 2 ^ x) den) (sym e)
            ∙ sum-flip f t s (S * 2 ^ x) (a * 2 ^ x) den
            ∙ ap (λ (z : ℕ). sum f s (z * 2 ^ x) t (S * 2 ^ x) den) (sym (stick-zero a) ∙ ap (λ (z : ℕ). stick a z) (none x y l))
            ∙ ap (λ (z : ℕ). sum f s (stick a (y - x) * 2 ^ z) t (S * 2 ^ z) den) (sym m)
        | inr l ↦
            let m : max x y ≡ y = omega arith in
            let e : b ≡ 2 * (c * 2 ^ (lift-c f - 1)) = even c (lift-c f) (le_trans (lift-pos f) (omega arith)) in
            let S = stick a (y - x) in
            ap (λ (z : ℕ). sum f s (a * 2 ^ x) t (z * 2 ^ y) den) e
            ∙ settle f S (a * 2 ^ x) (c * 2 ^ (lift-c f - 1)) y (deep f) (moved_up a x y (omega arith)) (subst (λ (z : ℕ). (S * 2 ^ y ≡ a * 2 ^ x) ⊎ ((y + 2 ≤ deep f) ⊎ (S + 2 ^ (prec f + 1) ≤ z))) e (far-x l)) s t
            ∙ ap (λ (z : ℕ). sum f s (S * 2 ^ y) t (z * 2 ^ y) den) (sym e)
            ∙ ap (λ (z : ℕ). sum f s (S * 2 ^ y) t (z * 2 ^ y) den) (sym (stick-zero b) ∙ ap (λ (z : ℕ). stick b z) (none y x (omega arith)))
            ∙ ap (λ (z : ℕ). sum f s (S * 2 ^ z) t (stick b (x - y) * 2 ^ z) den) (sym m)
      ]
    where
      none : (u v : ℕ) → v ≤ u → 0 ≡ v - u
      none u v h = omega arith
