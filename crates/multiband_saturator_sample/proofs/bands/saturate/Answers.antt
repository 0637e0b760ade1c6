-- `multiband_saturator_sample::bands::saturate` meets its contract. Assumes nothing.
use Rattle.std.proofs.Common.{rules}
use lib.Ieee.{of_bits}
use Rattle.answer.specs.Figures.{f32}
use Rattle.multiband_saturator_sample.specs.Bands.{saturate}
use Rattle.multiband_saturator_sample.proofs.bands.saturate.Goals as goal

pub returns : goal.returns
unfolding saturate f32 of_bits
returns c = search rules
