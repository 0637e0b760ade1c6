-- `leveller_settings::Setting::worked` meets its contract. Assumes nothing.
use Rattle.std.proofs.Common.{rules}
use lib.Ieee.{of_bits}
use Rattle.answer.specs.Figures.{f32}
use Rattle.leveller_settings.specs.Ranges.{worked}
use Rattle.leveller_settings.proofs.Setting.worked.Goals as goal

pub returns-in-Threshold : goal.returns-in-Threshold
unfolding worked f32 of_bits
returns-in-Threshold c = search rules

pub returns-in-Attack : goal.returns-in-Attack
unfolding worked f32 of_bits
returns-in-Attack c = search rules

pub returns-in-Release : goal.returns-in-Release
unfolding worked f32 of_bits
returns-in-Release c = search rules

pub returns-in_default : goal.returns-in_default
unfolding worked f32 of_bits
returns-in_default c = search rules
