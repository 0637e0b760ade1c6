-- `multiband_saturator_sample::bands::saturated` meets its contract. Assumes nothing.
use Rattle.std.proofs.Common.{rules}
use lib.Ieee.{of_bits}
use Rattle.answer.specs.Figures.{f32}
use Rattle.multiband_saturator_sample.specs.Bands.{saturated}
use Rattle.multiband_saturator_sample.proofs.bands.saturated.Goals as goal

pub returns-then-env : goal.returns-then-env
unfolding saturated f32 of_bits
returns-then-env c = search rules

pub returns-else-env : goal.returns-else-env
unfolding saturated f32 of_bits
returns-else-env c = search rules
