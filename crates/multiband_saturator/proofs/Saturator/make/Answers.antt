-- `multiband_saturator::Saturator::make` meets its contract. Assumes nothing.
use Rattle.std.proofs.Common.{rules}
use lib.Ieee.{of_bits}
use Rattle.answer.specs.Figures.{f32}
use Rattle.multiband_saturator.specs.Calls.{made, make}
use Rattle.multiband_saturator.proofs.Saturator.make.Goals as goal

pub returns-then-not-is_rate : goal.returns-then-not-is_rate
unfolding make
returns-then-not-is_rate c = search rules

pub returns-then-not-lent : goal.returns-then-not-lent
unfolding make
returns-then-not-lent c = search rules

pub returns : goal.returns
unfolding make made f32 of_bits
returns c = search rules
