-- `eq_bands::bands::clears` meets its contract. Assumes nothing.
use Rattle.std.proofs.Common.{rules}
use lib.Ieee.{of_bits}
use Rattle.eq_bands.specs.Bands.{clears}
use Rattle.eq_bands.proofs.bands.clears.Goals as goal

pub returns-then-old : goal.returns-then-old
unfolding clears of_bits
returns-then-old c = search rules

pub returns-else-old : goal.returns-else-old
unfolding clears of_bits
returns-else-old c = search rules
