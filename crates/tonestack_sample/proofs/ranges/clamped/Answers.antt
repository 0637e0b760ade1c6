-- `tonestack_sample::ranges::clamped` meets its contract. Assumes nothing.
use Rattle.std.proofs.Common.{rules}
use lib.Ieee.{of_bits}
use Rattle.answer.specs.Figures.{f32}
use Rattle.tonestack_sample.specs.Ranges.{clamped}
use Rattle.tonestack_sample.proofs.ranges.clamped.Goals as goal

pub returns : goal.returns
unfolding clamped f32 of_bits
returns c = search rules
