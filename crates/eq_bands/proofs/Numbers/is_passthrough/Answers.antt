-- `eq_bands::Numbers::is_passthrough` meets its contract. Assumes nothing.
use Rattle.std.proofs.Common.{rules}
use lib.Ieee.{to_bits}
use Rattle.eq_bands.specs.Bands.{is_passthrough}
use Rattle.eq_bands.proofs.Numbers.is_passthrough.Goals as goal

pub returns-then-bits64-eq0-3 : goal.returns-then-bits64-eq0-3
unfolding is_passthrough to_bits
returns-then-bits64-eq0-3 c = search rules

pub returns-else-bits64-eq0-3 : goal.returns-else-bits64-eq0-3
unfolding is_passthrough to_bits
returns-else-bits64-eq0-3 c = search rules
