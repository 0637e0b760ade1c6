-- The samples that are refused: exactly those whose size is not at most 64. The first refused one: every sample before it is accepted, and it is not.
-- Assumes nothing.
use mathlib.Core.Path.{◌≡◌, refl, sym, ◌∙◌}
use mathlib.Core.Bool.{Bool, true, false, not, ◌&&◌, ◌||◌, cond, true≢false}
use mathlib.Core.List.{List, [], ◌∷◌}
use mathlib.Core.Logic.{inl, inr}
use Prim.Native.Nat.{ℕ, zero, suc, ◌+◌, ◌*◌, ◌≤◌, ◌<◌, zero-le, suc-le-suc}
use native.Mathlib.Nat.{le_of_lt, le_of_eq, le_of_suc-le-suc, not-suc-le-zero, eq-or-lt_of_le}
use native.Mathlib.Omega.{arith}
use lib.Dec.{T, eqb, ltb}
use lib.ListN.{length, get_or}
use lib.Ieee.{Float, nan, inf, fin, up, down, le}
use borrow.Author.Tests.{ltb-true, ltb-false, lt-ltb, le-ltb, eq-eqb, ne_eqb}
use Rattle.rounding.specs.Casts.{absolute}
use Rattle.answer.specs.Figures.{f32, largest_sample}
use Rattle.answer.specs.Checks.{is_refused, first_refused}

-- ---- one sample
larger : (a b : ℕ) → ltb a b ≡ not (ltb b a || (eqb b a && true))
larger a b = go (ltb a b) refl
  where
    go : (t : Bool) → ltb a b ≡ t → t ≡ not (ltb b a || (eqb b a && true))
    go true h = let l : a < b = ltb-true a b h in rw (le-ltb b a (le_of_lt l), ne_eqb b a (λ e. omega arith))
    go false h = elim (eq-or-lt_of_le (ltb-false a b h)) [
      | inl e ↦ rw (le-ltb b a (le_of_eq (sym e)), eq-eqb b a e)
      | inr l ↦ rw (lt-ltb b a l)
    ]

pub refused-is : (x : Float) → is_refused x ≡ not (le (absolute x) (f32 largest_sample 1))
unfolding is_refused absolute le f32
refused-is nan = refl
refused-is (inf s) = refl
refused-is (fin s m e) = larger (64 * down e) (m * up e * 1)

pub accepted-size : (x : Float) → is_refused x ≡ false → T (le (absolute x) (f32 largest_sample 1))
accepted-size x h = go (le (absolute x) (f32 largest_sample 1)) (sym (refused-is x) ∙ h)
  where
    go : (t : Bool) → not t ≡ false → T t
    go true h = tt
    go false h = absurd (true≢false h)

-- ---- the first that is refused
pub first-most : (xs : List Float) → first_refused xs ≤ length xs
unfolding first_refused
first-most [] = zero-le
first-most (x ∷ xs) = go (is_refused x) (first-most xs)
  where
    go : (t : Bool) {n m : ℕ} → n ≤ m → cond t zero (suc n) ≤ suc m
    go true h = zero-le
    go false h = suc-le-suc h

pub before-first : (xs : List Float) (k : ℕ) (d : Float) → k < first_refused xs → is_refused (get_or xs k d) ≡ false
unfolding first_refused
before-first [] k d h = absurd (not-suc-le-zero h)
before-first (x ∷ xs) k d h = go (is_refused x) refl k h (λ k. before-first xs k d)
  where
    go : (t : Bool) → is_refused x ≡ t → (k : ℕ) → k < cond t zero (suc (first_refused xs)) → ((k : ℕ) → k < first_refused xs → is_refused (get_or xs k d) ≡ false) → is_refused (get_or (x ∷ xs) k d) ≡ false
    go true e k h next = absurd (not-suc-le-zero h)
    go false e zero h next = e
    go false e (suc k) h next = next k (le_of_suc-le-suc h)

pub at_first : (xs : List Float) (d : Float) → first_refused xs < length xs → is_refused (get_or xs (first_refused xs) d) ≡ true
unfolding first_refused
at_first [] d h = absurd (not-suc-le-zero h)
at_first (x ∷ xs) d h = go (is_refused x) refl h (at_first xs d)
  where
    go : (t : Bool) → is_refused x ≡ t → cond t zero (suc (first_refused xs)) < suc (length xs) → (first_refused xs < length xs → is_refused (get_or xs (first_refused xs) d) ≡ true)
        → is_refused (get_or (x ∷ xs) (cond t zero (suc (first_refused xs))) d) ≡ true
    go true e h next = e
    go false e h next = next (le_of_suc-le-suc h)

-- ---- the scan: none of the first i samples is refused
module _ (xs : List Float) {i : ℕ} (d : Float) (passed : i ≤ first_refused xs) where
  pub onward : i < length xs → is_refused (get_or xs i d) ≡ false → i + 1 ≤ first_refused xs
  onward h e = elim (eq-or-lt_of_le passed) [
    | inl p ↦ absurd (true≢false (sym (at_first xs d (omega (arith, p, h))) ∙ rw (sym p) e))
    | inr l ↦ omega (arith, l)
  ]

  pub found : is_refused (get_or xs i d) ≡ true → i ≡ first_refused xs
  found e = elim (eq-or-lt_of_le passed) [
    | inl p ↦ p
    | inr l ↦ absurd (true≢false (sym e ∙ before-first xs i d l))
  ]
