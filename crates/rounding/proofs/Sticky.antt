-- A number that stands for a fraction to an odd number. `Sticky N A g`: N is A / g where that is whole, and otherwise the odd one of the two whole numbers next to it.
-- Such an N rounds as A / g does, to any multiple of 4 (`closest-sticky`), and adding or taking off an even number keeps it so. Assumes nothing.
use mathlib.Core.Path.{◌≡◌, refl, sym, ap, ◌∙◌, subst}
use mathlib.Core.Logic.{inl, inr}
use Prim.Native.Nat.{ℕ, zero, suc, ◌+◌, ◌-◌, ◌*◌, ◌/◌, ◌%◌, ◌≤◌, ◌<◌}
use native.Mathlib.Nat.{le_trans, le_of_eq, lt_of_le_of_lt, mul_comm, mul_assoc, mul_left_comm, add-mul, mul-add, mul-sub, one-mul, mul-le-mul_right, mul-lt-mul_of_pos_right, mul-pos, mod-lt, div-add-mod', eq_of_mul-eq-mul_right, lt_of_mul-lt-mul_right}
use native.Mathlib.Omega.{arith}
use lib.Ieee.Nearest.{closest, closest_same}
use Rattle.rounding.specs.Steps.{Sticky}
use Rattle.rounding.proofs.Closest.{le-or-lt, closest-down, closest-up}

-- ---- it rounds as what it stands for

-- N is 4 * v * w + 2 * y + 1, and A lies between the even numbers next to it, times g
module _ (g v w y A : ℕ) (g0 : 0 < g) (lo : (4 * (w * v) + 2 * y) * g < A) (hi : A < (4 * (w * v) + 2 * y + 2) * g) where
  open-lo : 4 * (w * v * g) + 2 * (y * g) < A
  open-lo = subst (λ (z : ℕ). z < A) (add-mul (4 * (w * v)) (2 * y) g ∙ ap (λ (z : ℕ). z + 2 * y * g) (mul_assoc 4 (w * v) g) ∙ ap (λ (z : ℕ). 4 * (w * v * g) + z) (mul_assoc 2 y g)) lo

  open-hi : A < 4 * (w * v * g) + 2 * (y * g) + 2 * g
  open-hi = subst (λ (z : ℕ). A < z) (add-mul (4 * (w * v) + 2 * y) 2 g ∙ ap (λ (z : ℕ). z + 2 * g) (add-mul (4 * (w * v)) (2 * y) g ∙ ap (λ (z : ℕ). z + 2 * y * g) (mul_assoc 4 (w * v) g) ∙ ap (λ (z : ℕ). 4 * (w * v * g) + z) (mul_assoc 2 y g))) hi

  rest : ℕ
  rest = A - 4 * (w * v * g)

  base : w * (g * (4 * v)) ≡ 4 * (w * v * g)
  base = simp (mul_assoc, mul_comm, mul_left_comm)

  unit : g * (4 * v) ≡ 4 * (v * g)
  unit = simp (mul_comm, mul_left_comm)

  whole : A ≡ w * (g * (4 * v)) + rest
  unfolding rest
  whole = omega (arith, base, open-lo)

  below : suc y ≤ v → closest A (g * (4 * v)) ≡ w
  unfolding rest
  below k =
      let m : y * g + g ≤ v * g = le_trans (le_of_eq (omega (arith, add-mul y 1 g, one-mul g, ap (λ (z : ℕ). z * g) (plus_one y)))) (mul-le-mul_right g k) in
      closest-down A (g * (4 * v)) w rest whole (omega (arith, unit, open-lo, open-hi))
    where
      plus_one : (x : ℕ) → suc x ≡ x + 1
      plus_one x = omega arith

  above : v ≤ y → suc y ≤ 2 * v → closest A (g * (4 * v)) ≡ suc w
  unfolding rest
  above k j =
      let m : v * g ≤ y * g = mul-le-mul_right g k in
      let n : y * g + g ≤ 2 * (v * g) = le_trans (le_of_eq (omega (arith, add-mul y 1 g, one-mul g, ap (λ (z : ℕ). z * g) (plus_one y)))) (le_trans (mul-le-mul_right g j) (le_of_eq (mul_assoc 2 v g))) in
      closest-up A (g * (4 * v)) w rest whole (omega (arith, unit, open-lo, open-hi)) (omega (arith, unit, open-lo, open-hi))
    where
      plus_one : (x : ℕ) → suc x ≡ x + 1
      plus_one x = omega arith

-- an odd N by its quotient and remainder at 4 * v
split-odd : (N h w v r : ℕ) → N ≡ 2 * h + 1 → w * (4 * v) + r ≡ N → (r ≡ 2 * (r / 2) + 1) × (2 * h ≡ 4 * (w * v) + 2 * (r / 2))
split-odd N h w v r e q = let m : w * (4 * v) ≡ 4 * (w * v) = mul_left_comm w 4 v in (omega arith, omega arith)

odd-case : (N A g v h : ℕ) → 0 < g → 0 < v → N ≡ 2 * h + 1 → 2 * h * g < A → A < (2 * h + 2) * g → closest A (g * (4 * v)) ≡ closest N (4 * v)
odd-case N A g v h g0 v0 e lo hi =
    let w = N / (4 * v) in
    let r = N % (4 * v) in
    let y = r / 2 in
    let q : w * (4 * v) + r ≡ N = div-add-mod' N (4 * v) in
    let s = split-odd N h w v r e q in
    let r-lt : r < 4 * v = mod-lt N (omega arith) in
    let lo' : (4 * (w * v) + 2 * y) * g < A = subst (λ (z : ℕ). z * g < A) s.1 lo in
    let hi' : A < (4 * (w * v) + 2 * y + 2) * g = subst (λ (z : ℕ). A < (z + 2) * g) s.1 hi in
    elim (le-or-lt v y) [
      | inl k ↦ above g v w y A g0 lo' hi' k (omega (arith, s.0)) ∙ sym (closest-up N (4 * v) w r (sym q) r-lt (omega (arith, s.0)))
      | inr k ↦ below g v w y A g0 lo' hi' k ∙ sym (closest-down N (4 * v) w r (sym q) (omega (arith, s.0)))
    ]

pub closest-sticky : (N A g v : ℕ) → 0 < g → 0 < v → Sticky N A g → closest A (g * (4 * v)) ≡ closest N (4 * v)
closest-sticky N A g v g0 v0 (inl e) =
    closest_same A (g * (4 * v)) N (4 * v) (mul-pos g0 (omega arith)) (omega arith) (ap (λ (z : ℕ). z * (4 * v)) (sym e) ∙ mul_assoc N g (4 * v))
closest-sticky N A g v g0 v0 (inr (h, e, lo, hi)) = odd-case N A g v h g0 v0 e lo hi

-- ---- its order among even numbers
-- a product's order from a factor's
times-le : (a b g : ℕ) → a ≤ b → a * g ≤ b * g
times-le a b g h = mul-le-mul_right g h

pub under-even : (N A g M : ℕ) → 0 < g → Sticky N A g → N < 2 * M → A < 2 * M * g
under-even N A g M g0 (inl e) k = subst (λ (z : ℕ). z < 2 * M * g) e (mul-lt-mul_of_pos_right k g0)
under-even N A g M g0 (inr (h, e, lo, hi)) k = let m : (2 * h + 2) * g ≤ 2 * M * g = times-le (2 * h + 2) (2 * M) g (omega arith) in omega arith

pub over-even : (N A g M : ℕ) → 0 < g → Sticky N A g → 2 * M < N → 2 * M * g < A
over-even N A g M g0 (inl e) k = subst (λ (z : ℕ). 2 * M * g < z) e (mul-lt-mul_of_pos_right k g0)
over-even N A g M g0 (inr (h, e, lo, hi)) k = let m : 2 * M * g ≤ 2 * h * g = times-le (2 * M) (2 * h) g (omega arith) in omega arith

pub from-even : (N A g M : ℕ) → 0 < g → Sticky N A g → 2 * M ≤ N → 2 * M * g ≤ A
from-even N A g M g0 (inl e) k = subst (λ (z : ℕ). 2 * M * g ≤ z) e (times-le (2 * M) N g k)
from-even N A g M g0 (inr (h, e, lo, hi)) k = let m : 2 * M * g ≤ 2 * h * g = times-le (2 * M) (2 * h) g (omega arith) in omega arith

-- ---- even numbers added and taken off
pub sticky-add : (N A g M : ℕ) → Sticky N A g → Sticky (2 * M + N) (2 * M * g + A) g
sticky-add N A g M (inl e) = inl (add-mul (2 * M) N g ∙ ap (λ (z : ℕ). 2 * M * g + z) e)
sticky-add N A g M (inr (h, e, lo, hi)) =
    let a : 2 * (M + h) * g ≡ 2 * M * g + 2 * h * g = ap (λ (z : ℕ). z * g) (mul-add 2 M h) ∙ add-mul (2 * M) (2 * h) g in
    let b : (2 * (M + h) + 2) * g ≡ 2 * (M + h) * g + 2 * g = add-mul (2 * (M + h)) 2 g in
    let c : (2 * h + 2) * g ≡ 2 * h * g + 2 * g = add-mul (2 * h) 2 g in
    inr (M + h, omega arith, omega arith, omega arith)

-- A less 2 * M times g
pub sticky-less : (N A g M : ℕ) → 2 * M ≤ N → Sticky N A g → Sticky (N - 2 * M) (A - 2 * M * g) g
sticky-less N A g M k (inl e) = inl (mul_comm (N - 2 * M) g ∙ mul-sub g N (2 * M) ∙ omega (arith, mul_comm g N, mul_comm g (2 * M)))
sticky-less N A g M k (inr (h, e, lo, hi)) =
    let d = h - M in
    let x : h ≡ M + d = omega arith in
    let a : 2 * h * g ≡ 2 * M * g + 2 * d * g = ap (λ (z : ℕ). z * g) (ap (λ (z : ℕ). 2 * z) x ∙ mul-add 2 M d) ∙ add-mul (2 * M) (2 * d) g in
    let b : (2 * d + 2) * g ≡ 2 * d * g + 2 * g = add-mul (2 * d) 2 g in
    let c : (2 * h + 2) * g ≡ 2 * h * g + 2 * g = add-mul (2 * h) 2 g in
    inr (d, omega arith, omega arith, omega arith)

-- 2 * M times g less A
pub sticky-from : (N A g M : ℕ) → N ≤ 2 * M → Sticky N A g → Sticky (2 * M - N) (2 * M * g - A) g
sticky-from N A g M k (inl e) = inl (mul_comm (2 * M - N) g ∙ mul-sub g (2 * M) N ∙ omega (arith, mul_comm g N, mul_comm g (2 * M)))
sticky-from N A g M k (inr (h, e, lo, hi)) =
    let d = M - suc h in
    let x : M ≡ suc (h + d) = omega arith in
    let a : 2 * M * g ≡ 2 * h * g + (2 * d * g + 2 * g) = ap (λ (z : ℕ). z * g) (omega (arith)) ∙ add-mul (2 * h) (2 * d + 2) g ∙ ap (λ (z : ℕ). 2 * h * g + z) (add-mul (2 * d) 2 g) in
    let b : (2 * d + 2) * g ≡ 2 * d * g + 2 * g = add-mul (2 * d) 2 g in
    let c : (2 * h + 2) * g ≡ 2 * h * g + 2 * g = add-mul (2 * h) 2 g in
    inr (d, omega arith, omega arith, omega arith)

-- ---- cut twice
-- N is odd and is M * h, so M is odd too
odd_factor : (M h i : ℕ) → M * h ≡ 2 * i + 1 → (M ≡ 2 * (M / 2) + 1) × (2 * (M / 2 * h) + h ≡ 2 * i + 1)
odd_factor M h i e = go (M % 2) refl
  where
    go : (r : ℕ) → M % 2 ≡ r → (M ≡ 2 * (M / 2) + 1) × (2 * (M / 2 * h) + h ≡ 2 * i + 1)
    go zero q =
        let x : M * h ≡ 2 * (M / 2 * h) = ap (λ (z : ℕ). z * h) (omega arith) ∙ mul_assoc 2 (M / 2) h in
        absurd (omega arith)
    go (suc r) q =
        let y : M ≡ 2 * (M / 2) + 1 = omega arith in
        let x : M * h ≡ 2 * (M / 2 * h) + h = ap (λ (z : ℕ). z * h) y ∙ add-mul (2 * (M / 2)) 1 h ∙ ap (λ (z : ℕ). z + 1 * h) (mul_assoc 2 (M / 2) h) ∙ ap (λ (z : ℕ). 2 * (M / 2 * h) + z) (one-mul h) in
        (y, omega arith)

pub sticky-twice : (M N A g h : ℕ) → 0 < g → Sticky N A g → Sticky M N h → Sticky M A (h * g)
sticky-twice M N A g h g0 (inl e) (inl f) = inl (sym (mul_assoc M h g) ∙ ap (λ (z : ℕ). z * g) f ∙ e)
sticky-twice M N A g h g0 (inr (i, e, lo, hi)) (inl f) =
    let q = odd_factor M h i (f ∙ e) in
    let m = M / 2 in
    let a : 2 * (m * h) * g ≡ 2 * m * (h * g) = ap (λ (z : ℕ). z * g) (sym (mul_assoc 2 m h)) ∙ mul_assoc (2 * m) h g in
    let b : (2 * (m * h) + 2 * h) * g ≡ (2 * m + 2) * (h * g) = ap (λ (z : ℕ). z * g) (ap (λ (z : ℕ). z + 2 * h) (sym (mul_assoc 2 m h)) ∙ sym (add-mul (2 * m) 2 h)) ∙ mul_assoc (2 * m + 2) h g in
    let l : 2 * (m * h) * g ≤ 2 * i * g = times-le (2 * (m * h)) (2 * i) g (omega (arith, q.1)) in
    let u : (2 * i + 2) * g ≤ (2 * (m * h) + 2 * h) * g = times-le (2 * i + 2) (2 * (m * h) + 2 * h) g (omega (arith, q.1)) in
    inr (m, q.0, omega arith, omega arith)
sticky-twice M N A g h g0 s (inr (i, f, lo, hi)) =
    let a : 2 * (i * h) * g ≡ 2 * i * (h * g) = ap (λ (z : ℕ). z * g) (sym (mul_assoc 2 i h)) ∙ mul_assoc (2 * i) h g in
    let b : 2 * (suc i * h) * g ≡ (2 * i + 2) * (h * g) = ap (λ (z : ℕ). z * g) (sym (mul_assoc 2 (suc i) h)) ∙ mul_assoc (2 * suc i) h g ∙ ap (λ (z : ℕ). z * (h * g)) (twice-suc i) in
    let l : 2 * (i * h) < N = subst (λ (z : ℕ). z < N) (mul_assoc 2 i h) lo in
    let u : N < 2 * (suc i * h) = subst (λ (z : ℕ). N < z) (ap (λ (z : ℕ). z * h) (sym (twice-suc i)) ∙ mul_assoc 2 (suc i) h) hi in
    inr (i, f, subst (λ (z : ℕ). z < A) a (over-even N A g (i * h) g0 s l), subst (λ (z : ℕ). A < z) b (under-even N A g (suc i * h) g0 s u))
  where
    twice-suc : (x : ℕ) → 2 * suc x ≡ 2 * x + 2
    twice-suc x = omega arith

-- ---- what `Sticky` says of n is said of no other
pub sticky-unique : (n m a g : ℕ) → 0 < g → Sticky n a g → Sticky m a g → n ≡ m
sticky-unique n m a g g0 (inl e) (inl f) = eq_of_mul-eq-mul_right g g0 n m (e ∙ sym f)
sticky-unique n m a g g0 (inl e) (inr (h, f, lo, hi)) =
    let x : 2 * h < n = lt_of_mul-lt-mul_right g (subst (λ (z : ℕ). 2 * h * g < z) (sym e) lo) in
    let y : n < 2 * h + 2 = lt_of_mul-lt-mul_right g (subst (λ (z : ℕ). z < (2 * h + 2) * g) (sym e) hi) in
    omega arith
sticky-unique n m a g g0 (inr (h, f, lo, hi)) (inl e) =
    let x : 2 * h < m = lt_of_mul-lt-mul_right g (subst (λ (z : ℕ). 2 * h * g < z) (sym e) lo) in
    let y : m < 2 * h + 2 = lt_of_mul-lt-mul_right g (subst (λ (z : ℕ). z < (2 * h + 2) * g) (sym e) hi) in
    omega arith
sticky-unique n m a g g0 (inr (h, f, lo, hi)) (inr (i, e, l, u)) =
    let x : 2 * h < 2 * i + 2 = lt_of_mul-lt-mul_right g (lt_of_le_of_lt (lt-le lo) u) in
    let y : 2 * i < 2 * h + 2 = lt_of_mul-lt-mul_right g (lt_of_le_of_lt (lt-le l) hi) in
    omega arith
  where
    lt-le : {p q : ℕ} → p < q → p ≤ q
    lt-le {p} {q} k = omega arith
