-- What 9 accepts is the definition's. Assumes nothing.
use Rattle.std.proofs.Common.{rules}
use lib.Ieee.{of_bits}
use Rattle.answer.specs.Figures.{f32}
use Rattle.noise_gate.specs.Bounds.{in_bounds, acceptable}
use Rattle.noise_gate.proofs.as_stage.GateStage.acceptable.Goals as goal

pub returns-then-in_range-2 : goal.returns-then-in_range-2
unfolding acceptable in_bounds f32 of_bits
returns-then-in_range-2 c = search rules

pub returns-else-in_range-2 : goal.returns-else-in_range-2
unfolding acceptable in_bounds f32 of_bits
returns-else-in_range-2 c = search rules
