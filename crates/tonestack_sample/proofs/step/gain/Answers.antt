-- `tonestack_sample::step::gain` meets its contract. Assumes nothing.
use Rattle.std.proofs.Common.{rules}
use lib.Ieee.{of_bits}
use Rattle.answer.specs.Figures.{f32}
use Rattle.tonestack_sample.specs.Step.{gain}
use Rattle.tonestack_sample.proofs.step.gain.Goals as goal

pub returns-then-control : goal.returns-then-control
unfolding gain f32 of_bits
returns-then-control c = search rules

pub returns-else-control : goal.returns-else-control
unfolding gain f32 of_bits
returns-else-control c = search rules
