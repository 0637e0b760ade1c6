-- `root::guess` meets its contract.
-- Assumes nothing.
use Rattle.std.proofs.Common.{arith}
use Rattle.root.proofs.Parts.{number}
use Rattle.root.proofs.guess.Goals as goal

pub float_from_bits-x : goal.float_from_bits-x
float_from_bits-x c = number _ (omega arith)

pub float_from_bits-first : goal.float_from_bits-first
float_from_bits-first c = number _ (omega arith)
