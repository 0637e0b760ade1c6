-- `root::nearest_root` meets its contract, whatever the guess. The first loop takes q down until q * q is below n + q, and the second up, keeping that, until n is at most q * q + q.
-- Assumes nothing.
use Rattle.std.proofs.Common.{arith}
use Rattle.root.proofs.Squares.{nearest-of}
use Rattle.root.proofs.nearest_root.Goals as goal

pub returns : goal.returns
returns c = nearest-of c.args.n c.loop-q-2.q (omega arith) c.loop-q-2.invariant.1 c.loop-q-2-test.false
