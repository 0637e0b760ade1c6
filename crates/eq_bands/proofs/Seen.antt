-- A stage whose state is another stage's seen through a function: a block leaves the state so seen, and writes the same.
-- Assumes nothing.
use mathlib.Core.Path.{◌≡◌, refl}
use mathlib.Core.List.{List, [], ◌∷◌}
use Rattle.fold.specs.Fold.{state_after, out_after}

module _ {S T X : Type 0} (f : S → T) (next : S → X → S) (next₂ : T → X → T) (e : (s : S) (x : X) → next₂ (f s) x ≡ f (next s x)) where
  pub seen-state : (s : S) (xs : List X) → state_after next₂ (f s) xs ≡ f (state_after next s xs)
  unfolding state_after
  seen-state s [] = refl
  seen-state s (x ∷ xs) = rw (e s x) (seen-state (next s x) xs)

  pub seen-out : {Y : Type 0} (out : S → X → Y) (out₂ : T → X → Y) → ((s : S) (x : X) → out₂ (f s) x ≡ out s x) → (s : S) (xs : List X) → out_after next₂ out₂ (f s) xs ≡ out_after next out s xs
  unfolding out_after
  seen-out out out₂ g s [] = refl
  seen-out out out₂ g s (x ∷ xs) = rw (e s x, g s x, seen-out out out₂ g (next s x) xs)
