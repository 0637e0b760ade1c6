-- `common::toward` meets its contract. Assumes nothing.
use lib.Ieee.{of_bits}
use Rattle.common.specs.Follower.{toward}
use Rattle.common.proofs.toward.Goals as goal

pub returns : goal.returns
unfolding toward of_bits
returns c = c.fma32.ensures
