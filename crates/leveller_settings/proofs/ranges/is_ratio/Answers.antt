-- `leveller_settings::ranges::is_ratio` meets its contract. Assumes nothing.
use Rattle.std.proofs.Common.{rules}
use lib.Ieee.{of_bits}
use Rattle.answer.specs.Figures.{f32}
use Rattle.leveller_settings.specs.Ranges.{is_ratio}
use Rattle.leveller_settings.proofs.ranges.is_ratio.Goals as goal

pub returns-then-r-2 : goal.returns-then-r-2
unfolding is_ratio f32 of_bits
returns-then-r-2 c = search rules

pub returns-else-r-2 : goal.returns-else-r-2
unfolding is_ratio f32 of_bits
returns-else-r-2 c = search rules
