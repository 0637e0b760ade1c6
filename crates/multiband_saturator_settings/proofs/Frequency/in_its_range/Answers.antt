-- `multiband_saturator_settings::Frequency::in_its_range` meets its contract. Assumes nothing.
use Rattle.std.proofs.Common.{rules}
use lib.Ieee.{of_bits}
use Rattle.answer.specs.Figures.{f32}
use Rattle.multiband_saturator_settings.specs.Ranges.{is_freq}
use Rattle.multiband_saturator_settings.proofs.Frequency.in_its_range.Goals as goal

pub returns-in-Low : goal.returns-in-Low
unfolding is_freq f32 of_bits
returns-in-Low c = search rules

pub returns-in-High : goal.returns-in-High
unfolding is_freq f32 of_bits
returns-in-High c = search rules
