-- A hold that was set crosses with its samples and their word. Assumes nothing.
use lib.Ieee.{of_bits}
use Rattle.answer.specs.Crossing.{of_hold}
use Rattle.answer.proofs.crossing.NumberedFromTruncation.from.Goals as goal

pub returns : goal.returns
unfolding of_hold of_bits
returns c = rw c.from.ensures
