-- `eq::Equaliser::make` meets its contract. Assumes nothing.
use Rattle.std.proofs.Common.{rules}
use lib.Ieee.{of_bits}
use Rattle.eq.specs.Calls.{make}
use Rattle.eq.proofs.Equaliser.make.Goals as goal

pub returns-then-not-is_rate : goal.returns-then-not-is_rate
unfolding make
returns-then-not-is_rate c = search rules

pub returns : goal.returns
unfolding make of_bits
returns c = search rules
