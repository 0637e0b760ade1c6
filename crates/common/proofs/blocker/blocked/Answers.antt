-- `common::blocker::blocked` meets its contract. Assumes nothing.
use Rattle.common.specs.Blocker.{blocked}
use Rattle.common.proofs.blocker.blocked.Goals as goal

pub returns : goal.returns
unfolding blocked
returns c = rw (c.settled32-2.ensures, c.settled32.ensures, c.fma32-y.ensures)
