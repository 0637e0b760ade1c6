-- `double_general::signed` meets its contract. Assumes nothing.
use mathlib.Core.Path.{subst}
use Prim.Native.Nat.{ℕ}
use native.Mathlib.Omega.{arith}
use mathlib.Core.Bool.{true, false, not}
use native.Mathlib.Nat.{zero-add}
use lib.Dec.{T}
use lib.Ieee.{binary64, nan_bits}
use Rattle.rounding.proofs.Terms.{no_nan}
use Rattle.double_general.proofs.signed.Goals as goal

pub float_from_bits-result : goal.float_from_bits-result
float_from_bits-result c = no_nan binary64 true c.args.b (omega arith)

pub float_from_bits-result-2 : goal.float_from_bits-result-2
float_from_bits-result-2 c = subst (λ (x : ℕ). T (not (nan_bits binary64 x))) (zero-add c.args.b) (no_nan binary64 false c.args.b (omega arith))
