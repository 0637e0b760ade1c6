-- `double::quick::signed` meets its contract. Assumes nothing.
use Rattle.std.proofs.Common.{ℕ, true, false, not, T, subst, zero-add, arith}
use lib.Ieee.{binary64, nan_bits}
use Rattle.rounding.proofs.Terms.{no_nan}
use Rattle.double.proofs.quick.signed.Goals as goal

pub float_from_bits-result : goal.float_from_bits-result
float_from_bits-result c = no_nan binary64 true c.args.b (omega arith)

pub float_from_bits-result-2 : goal.float_from_bits-result-2
float_from_bits-result-2 c = subst (λ (x : ℕ). T (not (nan_bits binary64 x))) (zero-add c.args.b) (no_nan binary64 false c.args.b (omega arith))
