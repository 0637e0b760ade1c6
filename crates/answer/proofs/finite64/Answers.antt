-- `answer::finite64` meets its contract. Assumes nothing.
use lib.Ieee.{div, of_bits}
use Rattle.answer.proofs.Finite.{below-infinity}
use Rattle.answer.proofs.finite64.Goals as goal

pub returns : goal.returns
unfolding div of_bits
returns c = rw c.size64.ensures (below-infinity c.args.x)
