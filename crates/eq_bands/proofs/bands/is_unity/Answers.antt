-- `eq_bands::bands::is_unity` meets its contract. Assumes nothing.
use Rattle.std.proofs.Common.{rules}
use lib.Ieee.{of_bits}
use Rattle.answer.specs.Figures.{f64}
use Rattle.eq_bands.specs.Bands.{is_unity}
use Rattle.eq_bands.proofs.bands.is_unity.Goals as goal

pub returns : goal.returns
unfolding is_unity f64 of_bits
returns c = search rules
