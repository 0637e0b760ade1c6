-- A refusal crosses by its number and its place. Assumes nothing.
use lib.Ieee.{of_bits}
use Rattle.answer.specs.Crossing.{of_refusal}
use Rattle.answer.proofs.crossing.NumberedFromRefusal.from.Goals as goal

pub returns : goal.returns
unfolding of_refusal of_bits
returns c = rw (c.number.ensures, c.place.ensures)
