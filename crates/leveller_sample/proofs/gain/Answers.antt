-- `leveller_sample::gain` meets its contract. Assumes nothing.
use Rattle.std.proofs.Common.{rules}
use lib.Ieee.{of_bits}
use Rattle.answer.specs.Figures.{f32}
use Rattle.leveller_sample.specs.Step.{gain_at}
use Rattle.leveller_sample.proofs.gain.Goals as goal

pub returns-then-ratio : goal.returns-then-ratio
unfolding gain_at f32 of_bits
returns-then-ratio c = search rules

pub returns-then-ratio-2 : goal.returns-then-ratio-2
unfolding gain_at f32 of_bits
returns-then-ratio-2 c = search rules

pub returns : goal.returns
unfolding gain_at f32 of_bits
returns c = search rules
