-- `answer::is_refused` meets its contract. Assumes nothing.
use lib.Ieee.{of_bits}
use Rattle.answer.specs.Figures.{f32}
use Rattle.answer.proofs.Samples.{refused-is}
use Rattle.answer.proofs.is_refused.Goals as goal

pub returns : goal.returns
unfolding f32 of_bits
returns c = rw (refused-is c.args.x, ← c.size32.ensures)
