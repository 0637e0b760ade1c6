-- `leveller_sample::larger` meets its contract. Assumes nothing.
use Rattle.leveller_sample.specs.Step.{larger}
use Rattle.leveller_sample.proofs.larger.Goals as goal

pub returns-then-a-x : goal.returns-then-a-x
unfolding larger
returns-then-a-x c = rw c.if-a-x.true

pub returns-else-a-x : goal.returns-else-a-x
unfolding larger
returns-else-a-x c = rw c.if-a-x.false
