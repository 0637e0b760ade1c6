-- `leveller_sample::step` meets its contract. Assumes nothing.
use lib.Ieee.{of_bits}
use Rattle.answer.specs.Figures.{f32}
use Rattle.leveller_sample.specs.Step.{level_input, level, over, gain, output, next, step}
use Rattle.leveller_sample.proofs.step.Goals as goal

pub returns : goal.returns
unfolding step next level_input level over gain output f32 of_bits
returns c =
    rw (c.settled32-2.ensures, c.settled32.ensures, c.gain-g.ensures, c.larger-over.ensures, c.followed-level.ensures, c.larger-fed.ensures, c.size32.ensures)
