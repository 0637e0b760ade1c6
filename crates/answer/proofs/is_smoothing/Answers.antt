-- `answer::is_smoothing` meets its contract. Assumes nothing.
use lib.Ieee.{of_bits}
use Rattle.answer.specs.Checks.{is_smoothing}
use Rattle.answer.proofs.is_smoothing.Goals as goal

pub returns-then-c : goal.returns-then-c
unfolding is_smoothing of_bits
returns-then-c c = rw c.if-c.true

pub returns-else-c : goal.returns-else-c
unfolding is_smoothing of_bits
returns-else-c c = rw c.if-c.false
