-- `multiband_saturator_settings::Bands::each_within` meets its contract. Assumes nothing.
use Rattle.std.proofs.Common.{rules}
use lib.Ieee.{of_bits}
use Rattle.answer.specs.Figures.{f32}
use Rattle.multiband_saturator_settings.specs.Ranges.{each_within}
use Rattle.multiband_saturator_settings.proofs.Bands.each_within.Goals as goal

pub returns-then-in_range-2 : goal.returns-then-in_range-2
unfolding each_within f32 of_bits
returns-then-in_range-2 c = search rules

pub returns-else-in_range-2 : goal.returns-else-in_range-2
unfolding each_within f32 of_bits
returns-else-in_range-2 c = search rules
