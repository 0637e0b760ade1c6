-- `bits::settled64` meets its contract. Assumes nothing.
use Rattle.std.proofs.Common.{sym, ◌∙◌}
use lib.Ieee.{of_bits}
use Rattle.rounding.proofs.Nan.{of_nan}
use Rattle.bits.proofs.settled64.Goals as goal

pub returns-then-is_nan : goal.returns-then-is_nan
unfolding of_bits
returns-then-is_nan c = sym (of_nan _ (sym c.is_nan.ensures.value ∙ c.if-is_nan.true))
