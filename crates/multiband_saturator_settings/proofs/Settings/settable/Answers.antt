-- `multiband_saturator_settings::Settings::settable` meets its contract. Assumes nothing.
use Rattle.std.proofs.Common.{rules}
use lib.Ieee.{of_bits}
use Rattle.answer.specs.Figures.{f32}
use Rattle.multiband_saturator_settings.specs.Ranges.{settable}
use Rattle.multiband_saturator_settings.proofs.Settings.settable.Goals as goal

pub returns-then-in_its_range-2 : goal.returns-then-in_its_range-2
unfolding settable f32 of_bits
returns-then-in_its_range-2 c = search rules

pub returns-else-in_its_range-2 : goal.returns-else-in_its_range-2
unfolding settable f32 of_bits
returns-else-in_its_range-2 c = search rules
