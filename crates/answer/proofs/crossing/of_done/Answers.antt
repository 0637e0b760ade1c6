-- `answer::crossing::of_done` meets its contract. Assumes nothing.
use Rattle.answer.specs.Crossing.{of_done}
use Rattle.answer.proofs.crossing.of_done.Goals as goal

pub returns : goal.returns
unfolding of_done
returns c = rw c.settled32.ensures
