-- Two stages in a row over a block, the second reading what the first writes, are the pair of stages over each sample.
-- Assumes nothing.
use mathlib.Core.Path.{◌≡◌, refl, ap}
use mathlib.Core.List.{List, [], ◌∷◌}
use Rattle.fold.specs.Fold.{state_after, out_after, pair_next, pair_out}

module _ {S R X Y Z : Type 0} (next : S → X → S) (out : S → X → Y) (next₂ : R → Y → R) (out₂ : R → Y → Z) where
  pub row-state : (s : S) (r : R) (xs : List X) → state_after (pair_next next out next₂) (s, r) xs ≡ (state_after next s xs, state_after next₂ r (out_after next out s xs))
  unfolding state_after out_after
  row-state s r [] = refl
  row-state s r (x ∷ xs) = row-state (next s x) (next₂ r (out s x)) xs

  pub row_out : (s : S) (r : R) (xs : List X) → out_after (pair_next next out next₂) (pair_out next out next₂ out₂) (s, r) xs ≡ out_after next₂ out₂ r (out_after next out s xs)
  unfolding state_after out_after
  row_out s r [] = refl
  row_out s r (x ∷ xs) = ap (λ (l : List Z). out₂ r (out s x) ∷ l) (row_out (next s x) (next₂ r (out s x)) xs)
