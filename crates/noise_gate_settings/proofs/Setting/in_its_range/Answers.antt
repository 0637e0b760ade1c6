-- `noise_gate_settings::Setting::in_its_range` meets its contract. Assumes nothing.
use Rattle.std.proofs.Common.{rules}
use lib.Ieee.{of_bits, neg}
use Rattle.answer.specs.Figures.{f32}
use Rattle.noise_gate_settings.specs.Ranges.{in_its_range}
use Rattle.noise_gate_settings.proofs.Setting.in_its_range.Goals as goal

pub returns-in-Threshold : goal.returns-in-Threshold
unfolding in_its_range f32 of_bits neg
returns-in-Threshold c = search rules

pub returns-in-Ratio : goal.returns-in-Ratio
unfolding in_its_range f32 of_bits neg
returns-in-Ratio c = search rules

pub returns-in-Attack : goal.returns-in-Attack
unfolding in_its_range f32 of_bits neg
returns-in-Attack c = search rules

pub returns-in-Release : goal.returns-in-Release
unfolding in_its_range f32 of_bits neg
returns-in-Release c = search rules

pub returns-in-Hold : goal.returns-in-Hold
unfolding in_its_range f32 of_bits neg
returns-in-Hold c = search rules
