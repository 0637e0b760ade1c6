-- A block widened, run through the bands over a buffer, and narrowed is its samples one after the other.
-- Assumes nothing.
use Rattle.std.proofs.Common.{◌≡◌, refl, ◌∙◌, ap, List, [], ◌∷◌, map, Float}
use Rattle.fold.specs.Fold.{out_after}
use Rattle.rounding.specs.Casts.{narrow}
use Rattle.eq_bands.specs.declared.Settings.{Settings}
use Rattle.eq_bands.specs.Row as Row
use Rattle.eq_bands.specs.declared.Registers.{Registers}
use Rattle.eq.specs.Calls.{after, outputs}

-- each sample that a stage gives may be seen through a function
seen-through : {S X Y Z : Type 0} (f : Y → Z) (next : S → X → S) (out : S → X → Y) (s : S) (xs : List X) → map f (out_after next out s xs) ≡ out_after next (λ s x. f (out s x)) s xs
unfolding out_after
seen-through f next out s [] = refl
seen-through {Z = Z} f next out s (x ∷ xs) = ap (λ (l : List Z). f (out s x) ∷ l) (seen-through f next out (next s x) xs)

module _ (s : Settings) (m : Registers) (xs : List Float) where
  pub ran : {wide given : List Float} {r : Registers} {out : List Float}
      → wide ≡ xs → (r, given) ≡ Row.through s m wide → out ≡ map narrow given
      → (r ≡ after s m xs) × (out ≡ outputs s m xs)
  unfolding Row.rounded
  ran {wide} {given} {r} {out} w t n =
      let e : (r, given) ≡ Row.through s m xs = rw w at t in
      let g : given ≡ (Row.through s m xs).1 = ap (λ (p : Registers × List Float). p.1) e in
      (ap (λ (p : Registers × List Float). p.0) e, n ∙ ap (map narrow) g ∙ seen-through narrow (Row.next s) (Row.output s) m xs)
