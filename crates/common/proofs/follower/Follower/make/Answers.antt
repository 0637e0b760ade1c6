-- `common::follower::Follower::make` meets its contract. Assumes nothing.
use Rattle.std.proofs.Common.{rules}
use lib.Ieee.{of_bits}
use Rattle.common.specs.Follower.{make}
use Rattle.common.proofs.follower.Follower.make.Goals as goal

pub returns-then-not-acceptable : goal.returns-then-not-acceptable
unfolding make
returns-then-not-acceptable c = search rules

pub returns : goal.returns
unfolding make of_bits
returns c = search rules
