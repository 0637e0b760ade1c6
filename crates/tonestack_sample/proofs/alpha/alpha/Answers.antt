-- `tonestack_sample::alpha::alpha` meets its contract. Assumes nothing.
use Rattle.std.proofs.Common.{rules}
use lib.Ieee.{of_bits}
use Rattle.answer.specs.Figures.{f32}
use Rattle.tonestack_sample.specs.Alpha.{alpha}
use Rattle.tonestack_sample.proofs.alpha.alpha.Goals as goal

pub returns : goal.returns
unfolding alpha f32 of_bits
returns c = search rules
