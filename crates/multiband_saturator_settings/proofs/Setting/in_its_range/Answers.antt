-- `multiband_saturator_settings::Setting::in_its_range` meets its contract. Assumes nothing.
use Rattle.std.proofs.Common.{rules}
use lib.Ieee.{of_bits}
use Rattle.answer.specs.Figures.{f32}
use Rattle.multiband_saturator_settings.specs.Ranges.{in_its_range}
use Rattle.multiband_saturator_settings.proofs.Setting.in_its_range.Goals as goal

pub returns-in-Drive : goal.returns-in-Drive
unfolding in_its_range f32 of_bits
returns-in-Drive c = search rules

pub returns-in-Level : goal.returns-in-Level
unfolding in_its_range f32 of_bits
returns-in-Level c = search rules

pub returns-in-Freq : goal.returns-in-Freq
unfolding in_its_range f32 of_bits
returns-in-Freq c = search rules
