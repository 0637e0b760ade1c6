-- `eq_bands::bands::in_its_range` meets its contract. Assumes nothing.
use Rattle.std.proofs.Common.{rules}
use lib.Ieee.{of_bits, neg}
use Rattle.answer.specs.Figures.{f32}
use Rattle.eq_bands.specs.Bands.{in_its_range}
use Rattle.eq_bands.proofs.bands.in_its_range.Goals as goal

pub returns : goal.returns
unfolding in_its_range f32 of_bits neg
returns c = search rules
