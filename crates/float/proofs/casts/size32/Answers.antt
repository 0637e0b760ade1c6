-- `float::casts::size32` meets its contract. Assumes nothing.
use Rattle.std.proofs.Common.{sym}
use lib.Ieee.{binary32, of_bits}
use Rattle.rounding.proofs.Nan.{of_nan}
use Rattle.rounding.proofs.Casts.{absolute-is, absolute-nan, absolute-no-nan}
use Rattle.std.proofs.lemmas.Float.{T_from_true}
use Rattle.float.proofs.casts.size32.Goals as goal

pub returns-then-is_nan : goal.returns-then-is_nan
unfolding of_bits
returns-then-is_nan c = absolute-nan c.args.x (of_nan _ (sym c.if-is_nan.ensures.value))

pub float_from_bits-result : goal.float_from_bits-result
float_from_bits-result c = absolute-no-nan binary32 c.args.x (T_from_true _ c.well_formed.0.1) c.if-is_nan.ensures.not_nan

pub returns : goal.returns
returns c = absolute-is binary32 c.args.x (T_from_true _ c.well_formed.0.1)
