-- `common::follower::followed` meets its contract. Assumes nothing.
use mathlib.Core.Path.{◌∙◌}
use Rattle.common.specs.Follower.{followed}
use Rattle.common.proofs.follower.followed.Goals as goal

pub returns-then-r-level : goal.returns-then-r-level
unfolding followed
returns-then-r-level c = rw (← c.size32-r.ensures, c.if-r-level.true) (c.settled32.ensures ∙ c.toward.ensures)

pub returns-else-r-level : goal.returns-else-r-level
unfolding followed
returns-else-r-level c = rw (← c.size32-r.ensures, c.if-r-level.false) (c.settled32-else-r-level.ensures ∙ c.toward-else-r-level.ensures)
