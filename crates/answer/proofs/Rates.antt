-- A number from the lowest rate to the highest is whole exactly if its truncation is exact.
-- Assumes nothing.
use mathlib.Core.Path.{◌≡◌, refl, sym, ◌∙◌, subst}
use mathlib.Core.Bool.{Bool, true, false, ◌&&◌, and-true, and-false}
use Prim.Native.Nat.{ℕ, ◌*◌, ◌/◌, ◌%◌, ◌^◌, ◌≤◌}
use native.Mathlib.Nat.{le_trans, div-add-mod', div-le_of_le-mul, min-eq_left}
use native.Mathlib.Omega.{arith}
use lib.IntN.{ℤ}
use lib.Dec.{T, eqb, lit≤}
use lib.Ieee.{Float, nan, inf, fin, binary32, up, down, eq, le, whole, to_unsigned}
use lib.Ieee.Fits.{and_l, and_r}
use lib.Ieee.Positive.{positive, num, den, own_value, values_of_le, between}
use borrow.Author.Tests.{eqb-true, eqb-false, eq-eqb, ne_eqb, le-leb}
use Rattle.float.specs.Truncating.{itself, exactness}
use Rattle.float.specs.declared.Exactness.TheVariants.{Exact, Cut}
use Rattle.float.proofs.Truncating.{said-exact, said-cut}
use Rattle.answer.specs.Figures.{f32, lowest_rate, highest_rate}
use Rattle.answer.specs.Checks.{in_range, is_rate}

-- the whole number that m * 2 ^ e is cut to equals m * 2 ^ e exactly if nothing was cut off
back-is-whole : (m : ℕ) (e : ℤ) → eq (itself (m * up e / down e)) (fin false m e) ≡ eqb (m * up e % down e) 0
unfolding eq
back-is-whole m e = go (eqb (m * up e % down e) 0) refl
  where
    go : (t : Bool) → eqb (m * up e % down e) 0 ≡ t → (eqb (m * up e / down e * 1 * down e) (m * up e * 1) && true) ≡ t
    go true h = rw (eq-eqb (m * up e / down e * 1 * down e) (m * up e * 1) (omega (arith, div-add-mod' (m * up e) (down e), eqb-true (m * up e % down e) 0 h)))
    go false h = rw (ne_eqb (m * up e / down e * 1 * down e) (m * up e * 1) (λ g. eqb-false (m * up e % down e) 0 h (omega (arith, div-add-mod' (m * up e) (down e), g))))

-- ---- of x above zero, up to the highest rate
part-most : (x : Float) → T (positive x) → T (le x (f32 highest_rate 1)) → num x / den x ≤ highest_rate
unfolding f32
part-most x p h = div-le_of_le-mul (den x) (omega (arith, values_of_le x (f32 highest_rate 1) (num x) (den x) highest_rate 1 p tt (own_value x p) (refl, refl) h))

cut-part : (x : Float) → T (positive x) → num x / den x ≤ highest_rate → to_unsigned 64 x ≡ num x / den x
unfolding to_unsigned
cut-part nan p h = absurd p
cut-part (inf s) p h = absurd p
cut-part (fin true m e) p h = absurd p
cut-part (fin false m e) p h = min-eq_left (le_trans h (lit≤ tt))

back-part : (x : Float) → T (positive x) → num x / den x ≤ highest_rate → eq (itself (num x / den x)) x ≡ whole binary32 x
unfolding whole
back-part nan p h = absurd p
back-part (inf s) p h = absurd p
back-part (fin true m e) p h = absurd p
back-part (fin false m e) p h =
    back-is-whole m e ∙ simp (le-leb (m * up e / down e) (2 ^ 24) (le_trans h (lit≤ tt)), and-true)

-- ---- of x from the lowest rate to the highest
module _ (x : Float) (ranged : in_range (f32 lowest_rate 1) (f32 highest_rate 1) x ≡ true) where
  above : T (le (f32 lowest_rate 1) x)
  above = and_l (le (f32 lowest_rate 1) x) (le x (f32 highest_rate 1)) (subst T (sym ranged) tt)

  below : T (le x (f32 highest_rate 1))
  below = and_r (le (f32 lowest_rate 1) x) (le x (f32 highest_rate 1)) (subst T (sym ranged) tt)

  is_positive : T (positive x)
  unfolding f32
  is_positive = between (f32 lowest_rate 1) x (f32 highest_rate 1) tt tt above below

  part : num x / den x ≤ highest_rate
  part = part-most x is_positive below

  comes_back : eq (itself (to_unsigned 64 x)) x ≡ is_rate x
  unfolding is_rate
  comes_back = rw (cut-part x is_positive part, ranged) (back-part x is_positive part ∙ sym (and-true (whole binary32 x)))

  pub exact-rate : Exact ≡ exactness x → true ≡ is_rate x
  unfolding exactness
  exact-rate e = said-exact (eq (itself (to_unsigned 64 x)) x) e ∙ comes_back

  pub cut-rate : Cut ≡ exactness x → false ≡ is_rate x
  unfolding exactness
  cut-rate e = said-cut (eq (itself (to_unsigned 64 x)) x) e ∙ comes_back

pub out_of_range : (x : Float) → in_range (f32 lowest_rate 1) (f32 highest_rate 1) x ≡ false → false ≡ is_rate x
unfolding is_rate
out_of_range x h = rw h (sym (and-false (whole binary32 x)))
