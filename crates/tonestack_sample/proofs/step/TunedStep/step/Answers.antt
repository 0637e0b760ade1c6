-- What a sample leaves and gives is the definition's. Assumes nothing.
use Rattle.std.proofs.Common.{rules}
use lib.Ieee.{of_bits}
use Rattle.answer.specs.Figures.{f32}
use Rattle.tonestack_sample.specs.Step.{mixed, finished, dc, blocked, bass, treble, mix, presence, output_with, next_with}
use Rattle.tonestack_sample.proofs.step.TunedStep.step.Goals as goal

pub returns : goal.returns
unfolding next_with output_with presence mix treble bass blocked dc mixed finished f32 of_bits
returns c = search rules
