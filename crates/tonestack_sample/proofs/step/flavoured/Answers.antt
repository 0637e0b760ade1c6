-- `tonestack_sample::step::flavoured` meets its contract. Assumes nothing.
use Rattle.std.proofs.Common.{rules}
use lib.Ieee.{of_bits}
use Rattle.answer.specs.Figures.{f32}
use Rattle.tonestack_sample.specs.Step.{flavoured}
use Rattle.tonestack_sample.proofs.step.flavoured.Goals as goal

pub returns-in-Modern : goal.returns-in-Modern
unfolding flavoured f32 of_bits
returns-in-Modern c = search rules

pub returns-in-British : goal.returns-in-British
unfolding flavoured f32 of_bits
returns-in-British c = search rules

pub returns-in-American : goal.returns-in-American
unfolding flavoured f32 of_bits
returns-in-American c = search rules

pub returns-in-Flat : goal.returns-in-Flat
unfolding flavoured
returns-in-Flat c = search rules
