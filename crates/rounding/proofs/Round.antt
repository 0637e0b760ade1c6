-- `round` at a number that stands for its fraction to an odd number (`round-sticky`): once for any format. Assumes nothing.
use mathlib.Core.Path.{◌≡◌, refl, sym, ap, ◌∙◌, subst}
use mathlib.Core.Logic.{◌⊎◌, inl, inr}
use Prim.Native.Nat.{ℕ, suc, ◌+◌, ◌-◌, ◌*◌, ◌/◌, ◌^◌, ◌≤◌, ◌<◌}
use native.Mathlib.Nat.{le_trans, le_of_eq, le_antisymm, lt_of_le_of_lt, lt_of_not-le, not-le_of_lt, mul_assoc, mul_left_comm, mul-le-mul_right, lt_of_mul-lt-mul_right, mul-lt-mul_of_pos_right, mul-pos, mul-div-mul_right, div-lt_iff_lt-mul, pow-succ'}
use native.Mathlib.Omega.{arith}
use mathlib.Core.Bool.{Bool}
use lib.Pow.{pow-add, pow_pos, pow_mono}
use lib.Ieee.{Format, prec, low, size, units, round}
use lib.Ieee.Digits.{size-lt, size-le}
use lib.Ieee.Fits.{core, round_is}
use lib.Ieee.Nearest.{closest, closest_same}
use Rattle.rounding.specs.Steps.{Sticky}
use Rattle.rounding.proofs.Sticky.{closest-sticky, under-even, from-even}
use Rattle.rounding.proofs.Closest.{le-or-lt}

-- ---- `round` at a / 2 ^ (d + low): in units of the format's smallest value it is a / 2 ^ d
unfoldable pub dropped : Format → ℕ → ℕ → ℕ
dropped f a d = size (a / 2 ^ d) - prec f

pub round-units : (f : Format) (s : Bool) (a d : ℕ) → round f s a (2 ^ (d + low f)) ≡ units f s (closest a (2 ^ d * 2 ^ dropped f a d)) (dropped f a d)
unfolding dropped
round-units f s a d =
    let l = low f in
    let e : a * 2 ^ l / 2 ^ (d + l) ≡ a / 2 ^ d = ap (λ (x : ℕ). a * 2 ^ l / x) (pow-add 2 d l) ∙ mul-div-mul_right a (2 ^ d) (pow_pos l) in
    let k = size (a / 2 ^ d) - prec f in
    let same : a * 2 ^ l * (2 ^ d * 2 ^ k) ≡ a * (2 ^ (d + l) * 2 ^ k) = simp (pow-add, mul_assoc, mul_left_comm) in
    round_is f s a (2 ^ (d + l))
    ∙ ap (λ (x : ℕ). core f s (a * 2 ^ l) (2 ^ (d + l)) (size x - prec f)) e
    ∙ ap (λ (x : ℕ). units f s x k) (closest_same (a * 2 ^ l) (2 ^ (d + l) * 2 ^ k) a (2 ^ d * 2 ^ k) (mul-pos (pow_pos (d + l)) (pow_pos k)) (mul-pos (pow_pos d) (pow_pos k)) same)

-- ---- the two have as many digits
-- 2 ^ e is an even multiple of 2 ^ j
even-multiple : (e j : ℕ) → j + 1 ≤ e → 2 ^ e ≡ 2 * 2 ^ (e - (j + 1)) * 2 ^ j
even-multiple e j h = ap (λ (x : ℕ). 2 ^ x) (split e j h) ∙ pow-add 2 (suc (e - (j + 1))) j ∙ ap (λ (x : ℕ). x * 2 ^ j) (pow-succ' 2 (e - (j + 1)))
  where
    split : (x y : ℕ) → y + 1 ≤ x → x ≡ suc (x - (y + 1)) + y
    split x y k = omega arith

under_pow : (N A j e : ℕ) → Sticky N A (2 ^ j) → j + 1 ≤ e → N * 2 ^ j < 2 ^ e → A < 2 ^ e
under_pow N A j e s h l =
    subst (λ (x : ℕ). A < x) (sym (even-multiple e j h))
    (under-even N A (2 ^ j) (2 ^ (e - (j + 1))) (pow_pos j) s (lt_of_mul-lt-mul_right (2 ^ j) (subst (λ (x : ℕ). N * 2 ^ j < x) (even-multiple e j h) l)))

stands-under-pow : (N A j e : ℕ) → Sticky N A (2 ^ j) → j + 1 ≤ e → A < 2 ^ e → N * 2 ^ j < 2 ^ e
stands-under-pow N A j e s h l =
    let m = 2 ^ (e - (j + 1)) in
    let N-lt : N < 2 * m = lt_of_not-le (λ (g : 2 * m ≤ N). not-le_of_lt l (le_trans (le_of_eq (even-multiple e j h)) (from-even N A (2 ^ j) m (pow_pos j) s g))) in
    subst (λ (x : ℕ). N * 2 ^ j < x) (sym (even-multiple e j h)) (mul-lt-mul_of_pos_right N-lt (pow_pos j))

no-smaller : (N j e : ℕ) → 2 ≤ N → e < j + 1 → N * 2 ^ j < 2 ^ e → ⊥
no-smaller N j e n h l =
    let a : 2 * 2 ^ j ≤ N * 2 ^ j = mul-le-mul_right (2 ^ j) n in
    let b : 2 ^ e ≤ 2 ^ j = pow_mono (small e j h) in
    let c : 0 < 2 ^ j = pow_pos j in
    omega arith
  where
    small : (x y : ℕ) → x < y + 1 → x ≤ y
    small x y k = omega arith

-- A stands as low as N does only where N is 2 at least, or the power is no less than 2 ^ (j + 1)
module _ (N A j d : ℕ) (s : Sticky N A (2 ^ j)) (far : (2 ≤ N) ⊎ (j + 1 ≤ d)) where
  down : (t : ℕ) → N * 2 ^ j < 2 ^ (t + d) → A < 2 ^ (t + d)
  down t l = elim (le-or-lt (j + 1) (t + d)) [ inl h ↦ under_pow N A j (t + d) s h l | inr h ↦ elim far [ inl n ↦ absurd (no-smaller N j (t + d) n h l) | inr k ↦ absurd (omega arith) ] ]

  up : (t : ℕ) → A < 2 ^ (t + d) → N * 2 ^ j < 2 ^ (t + d)
  up t l = elim (le-or-lt (j + 1) (t + d)) [ inl h ↦ stands-under-pow N A j (t + d) s h l | inr h ↦ elim far [ inl n ↦ absurd (low-side n h) | inr k ↦ absurd (omega arith) ] ]
    where
      low-side : 2 ≤ N → t + d < j + 1 → ⊥
      low-side n h =
          let a : 2 * 1 * 2 ^ j ≤ A = from-even N A (2 ^ j) 1 (pow_pos j) s n in
          let b : 2 ^ (t + d) ≤ 2 ^ j = pow_mono (omega arith) in
          omega arith

  size_below : (a b : ℕ) → ((t : ℕ) → b < 2 ^ (t + d) → a < 2 ^ (t + d)) → size (a / 2 ^ d) ≤ size (b / 2 ^ d)
  size_below a b imp =
      let t = size (b / 2 ^ d) in
      size-le (a / 2 ^ d) t
      ((div-lt_iff_lt-mul (pow_pos d)).1 (subst (λ (x : ℕ). a < x) (pow-add 2 t d) (imp t (subst (λ (x : ℕ). b < x) (sym (pow-add 2 t d)) ((div-lt_iff_lt-mul (pow_pos d)).0 (size-lt (b / 2 ^ d)))))))

  size-sticky : size (A / 2 ^ d) ≡ size (N * 2 ^ j / 2 ^ d)
  size-sticky = le_antisymm (size_below A (N * 2 ^ j) down) (size_below (N * 2 ^ j) A up)

-- ---- so the two round alike, once N has two digits more than the format keeps, or 2 ^ j is a quarter of the smallest value at most
-- the digits that are dropped reach two places above 2 ^ j
reach : (f : Format) (N j d : ℕ) → (2 ^ (prec f + 1) ≤ N) ⊎ (j + 2 ≤ d) → j + 2 ≤ d + dropped f (N * 2 ^ j) d
unfolding dropped
reach f N j d (inr h) = omega arith
reach f N j d (inl h) =
    let z = size (N * 2 ^ j / 2 ^ d) in
    let a : N * 2 ^ j < 2 ^ (z + d) = subst (λ (x : ℕ). N * 2 ^ j < x) (sym (pow-add 2 z d)) ((div-lt_iff_lt-mul (pow_pos d)).0 (size-lt (N * 2 ^ j / 2 ^ d))) in
    let b : 2 ^ (prec f + 1 + j) < 2 ^ (z + d) = lt_of_le_of_lt (le_trans (le_of_eq (pow-add 2 (prec f + 1) j)) (mul-le-mul_right (2 ^ j) h)) a in
    let c : prec f + 1 + j < z + d = lt_of_not-le (λ (g : z + d ≤ prec f + 1 + j). not-le_of_lt b (pow_mono g)) in
    omega arith

quarter : (d k j : ℕ) → j + 2 ≤ d + k → 2 ^ d * 2 ^ k ≡ 2 ^ j * (4 * 2 ^ (d + k - (j + 2)))
quarter d k j h =
    let r = d + k - (j + 2) in
    sym (pow-add 2 d k) ∙ ap (λ (x : ℕ). 2 ^ x) (split (d + k) j h) ∙ pow-add 2 j (2 + r) ∙ ap (λ (x : ℕ). 2 ^ j * x) (pow-add 2 2 r)
  where
    split : (x y : ℕ) → y + 2 ≤ x → x ≡ y + (2 + (x - (y + 2)))
    split x y g = omega arith

wide_enough : (f : Format) (N j d : ℕ) → (2 ^ (prec f + 1) ≤ N) ⊎ (j + 2 ≤ d) → (2 ≤ N) ⊎ (j + 1 ≤ d)
wide_enough f N j d (inl h) = inl (le_trans (le_trans (le_of_eq refl) (pow_mono {i = 1} {j = prec f + 1} (omega arith))) h)
wide_enough f N j d (inr h) = inr (omega arith)

pub round-sticky : (f : Format) (s : Bool) (N A j d : ℕ) → Sticky N A (2 ^ j) → (2 ^ (prec f + 1) ≤ N) ⊎ (j + 2 ≤ d)
    → round f s A (2 ^ (d + low f)) ≡ round f s (N * 2 ^ j) (2 ^ (d + low f))
unfolding dropped
round-sticky f s N A j d st far =
    let k = dropped f (N * 2 ^ j) d in
    let k-is : dropped f A d ≡ k = ap (λ (x : ℕ). x - prec f) (size-sticky N A j d st (wide_enough f N j d far)) in
    let r = d + k - (j + 2) in
    let v = 2 ^ r in
    let u-is : 2 ^ d * 2 ^ k ≡ 2 ^ j * (4 * v) = quarter d k j (reach f N j d far) in
    let v0 : 0 < v = pow_pos r in
    let back : closest N (4 * v) ≡ closest (N * 2 ^ j) (2 ^ j * (4 * v)) =
    closest_same N (4 * v) (N * 2 ^ j) (2 ^ j * (4 * v)) (omega arith) (mul-pos (pow_pos j) (omega arith)) (sym (mul_assoc N (2 ^ j) (4 * v))) in
    round-units f s A d
    ∙ ap (λ (x : ℕ). units f s (closest A (2 ^ d * 2 ^ x)) x) k-is
    ∙ ap (λ (x : ℕ). units f s (closest A x) k) u-is
    ∙ ap (λ (x : ℕ). units f s x k) (closest-sticky N A (2 ^ j) v (pow_pos j) v0 st ∙ back)
    ∙ ap (λ (x : ℕ). units f s (closest (N * 2 ^ j) x) k) (sym u-is)
    ∙ sym (round-units f s (N * 2 ^ j) d)
