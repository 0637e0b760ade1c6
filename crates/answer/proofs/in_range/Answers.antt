-- `answer::in_range` meets its contract. Assumes nothing.
use Rattle.answer.proofs.in_range.Goals as goal

pub returns-then-lowest-x : goal.returns-then-lowest-x
returns-then-lowest-x c = rw c.if-lowest-x.true

pub returns-else-lowest-x : goal.returns-else-lowest-x
returns-else-lowest-x c = rw c.if-lowest-x.false
