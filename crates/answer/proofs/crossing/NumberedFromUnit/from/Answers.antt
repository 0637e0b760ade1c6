-- Done, with no more to say, crosses as number 0. Assumes nothing.
use mathlib.Core.Path.{refl}
use lib.Ieee.{of_bits}
use Rattle.answer.specs.Crossing.{of_done}
use Rattle.answer.proofs.crossing.NumberedFromUnit.from.Goals as goal

pub returns : goal.returns
unfolding of_done of_bits
returns c = refl
