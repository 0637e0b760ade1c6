-- `tonestack_sample::ranges::is_control` meets its contract. Assumes nothing.
use Rattle.std.proofs.Common.{rules}
use lib.Ieee.{of_bits}
use Rattle.answer.specs.Figures.{f32}
use Rattle.tonestack_sample.specs.Ranges.{is_control}
use Rattle.tonestack_sample.proofs.ranges.is_control.Goals as goal

pub returns : goal.returns
unfolding is_control f32 of_bits
returns c = search rules
