-- What the contracts of today's calls say of an answer is what `Answers` of each page speaks of. Definitions only.
-- Assumes nothing.
use Rattle.std.specs.Prelude.{◌≡◌, Float, Result, ⊤}
use Rattle.answer.specs.Told.{told, told_made, told_read, done}
use Rattle.answer.specs.declared.Refusal.{Refusal}
use Rattle.stage.specs.Calls.{told_by, valued}

-- of the states S of any stage
pub record Answered (S : Type 0) : Type 0 where
  -- a call of a stage that has no more to say, and a reading, tell what `told` and `told_read` do
  pub call : (s : S) (a : Result ⊤ Refusal) → told_by (λ s _. done s) s a ≡ told s a
  pub reading : (s : S) (a : Result Float Refusal) → told_by valued s a ≡ told_read s a
  -- of a making no two answers tell the same but two that refuse it alike: nothing made tells what is refused
  pub making : (unmade : S) (a b : Result S Refusal) → told_made unmade a ≡ told_made unmade b → a ≡ b
