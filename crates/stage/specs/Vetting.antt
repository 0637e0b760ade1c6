-- A setting that is refused by 3 and then by 4, as a chain of tests and as what vets it. Assumes nothing.
use Rattle.std.specs.Prelude.{◌≡◌, Bool, true, false, ⊤, refl}
use Rattle.answer.specs.Checks.{vetted}
use Rattle.answer.specs.Told.{Told, refused, unless}
use Rattle.answer.specs.declared.Refusal.TheVariants.{OutOfRange, BadWorkedNumber}
use Rattle.stage.specs.Calls.{told_by}

pub three_four : {S : Type 0} (s : S) (ranged worked : Bool) (t : Told S) → unless ranged (refused s OutOfRange) (unless worked (refused s BadWorkedNumber) t) ≡ told_by {A = ⊤} (λ _ _. t) s (vetted ranged worked)
three_four s true true t = refl
three_four s true false t = refl
three_four s false worked t = refl
