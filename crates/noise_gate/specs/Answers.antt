-- What a done setting of a gate and a done block on one tell, and what each tells of its answer, g being the gate after it. Definitions only.
-- What a making, a reset and a reading tell is `answer`'s. Assumes nothing.
use Rattle.std.specs.Prelude.{Option, Some, None, Result}
use Rattle.answer.specs.Told.{Told, done, done_hold, done_passed}
use Rattle.answer.specs.declared.Refusal.{Refusal}
use Rattle.float.specs.Truncating as truncating
use Rattle.float.specs.declared.Truncation.{Truncation}
use Rattle.stage.specs.Calls.{told_by}
use Rattle.noise_gate.specs.declared.Gate.{Gate}
use Rattle.noise_gate.specs.declared.Passed.{Passed}

-- of the hold, its samples and the word of their truncation; of any other setting nothing
abbrev pub says : Gate → Option Truncation → Told Gate
says g None = done g
says g (Some h) = done_hold g h.whole (truncating.number h.word)

abbrev pub passes : Gate → Passed → Told Gate
passes g p = done_passed g p.count p.quiet

abbrev pub told_set : Gate → Result (Option Truncation) Refusal → Told Gate
told_set = told_by says

abbrev pub told_block : Gate → Result Passed Refusal → Told Gate
told_block = told_by passes
