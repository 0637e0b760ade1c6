-- `double::quick::placed` meets its contract. Assumes nothing.
use Rattle.std.proofs.Common.{arith}
use Rattle.rounding.proofs.Machine.{placed-is, placed-lt}
use Rattle.double.proofs.quick.placed.Goals as goal

pub returns : goal.returns
returns c = let e = placed-is c.args.q c.args.t (omega arith) in let l = placed-lt c.args.q c.args.t (omega arith) (omega arith) in record { value = omega arith; bound = omega arith }
