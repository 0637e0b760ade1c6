-- A block on any state: 9, then the chain 7, 8, 6, then what its samples do. Definitions only.
-- Assumes nothing.
use Rattle.std.specs.Prelude.{◌≡◌, Bool, List, length, Float, Result, Ok, Err, ⊤}
use Rattle.answer.specs.Checks.{check_block}
use Rattle.answer.specs.Told.{Told, refused, unless}
use Rattle.answer.specs.declared.Refusal.{Refusal}
use Rattle.answer.specs.declared.Refusal.TheVariants.{BadState}

-- what is told, and what the buffer for the output holds afterwards: a refusal leaves state and buffer as they were
module _ {S : Type 0} (s : S) (out : List Float) (rest : Told S × List Float) where
  abbrev pub passing : Result ⊤ Refusal → Told S × List Float
  passing (Ok _) = rest
  passing (Err r) = (refused s r, out)

  -- whether 9 accepts s, and the samples
  unfoldable pub checked_block : Bool → List Float → Told S × List Float
  checked_block acceptable samples = unless acceptable (refused s BadState, out) (passing (check_block samples (length out)))

-- a block on s that is refused leaves s and the buffer
pub record BlockUnchanged {S B : Type 0} (s : S) (out : B) (t : Told S × B) : Type 0 where
  pub state : (t.0.number ≡ 0 → ⊥) → t.0.state ≡ s
  pub buffer : (t.0.number ≡ 0 → ⊥) → t.1 ≡ out
