-- `same` holds exactly of equal lists.
-- Assumes nothing.
use mathlib.Core.Path.{◌≡◌, refl, sym}
use mathlib.Core.Bool.{Bool, true, false, ◌&&◌, true≢false}
use mathlib.Core.List.{List, [], ◌∷◌}
use Prim.Native.Nat.{ℕ}
use lib.Dec.{eqb}
use Rattle.std.specs.Cmp.Lexicographic.{pointwise}
use borrow.Author.Tests.{eqb-true, eq-eqb}
use Rattle.answer.specs.Names.{same}

-- ---- equal lists
pub same_self : (a : List ℕ) → same a a ≡ true
unfolding same
same_self [] = refl
same_self (x ∷ a) = rw (eq-eqb x x refl) (same_self a)

pub same-equal : (a b : List ℕ) → same a b ≡ true → a ≡ b
unfolding same
same-equal [] [] h = refl
same-equal [] (y ∷ b) h = absurd (true≢false (sym h))
same-equal (x ∷ a) [] h = absurd (true≢false (sym h))
same-equal (x ∷ a) (y ∷ b) h = go (eqb x y) refl h (same-equal a b)
  where
    go : (t : Bool) → eqb x y ≡ t → (t && same a b) ≡ true → (same a b ≡ true → a ≡ b) → (x ∷ a) ≡ (y ∷ b)
    go true e h next = let p = eqb-true x y e in let q = next h in cc
    go false e h next = absurd (true≢false (sym h))

-- ---- what `==` decides
pub same-is : (a b : List ℕ) → same a b ≡ pointwise eqb a b
unfolding same
same-is [] [] = refl
same-is [] (y ∷ b) = refl
same-is (x ∷ a) [] = refl
same-is (x ∷ a) (y ∷ b) = rw (same-is a b)
