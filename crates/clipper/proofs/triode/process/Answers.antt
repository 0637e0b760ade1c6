-- `clipper::triode::process` meets its contract. Assumes nothing.
use Rattle.std.proofs.Common.{refl}
use lib.Ieee.{of_bits, neg, lt}
use Rattle.answer.specs.Figures.{f32, one}
use Rattle.clipper.specs.Process.{triode, minus_one}
use Rattle.clipper.proofs.Clamp.{clamp-is}
use Rattle.clipper.proofs.triode.process.Goals as goal

pub returns : goal.returns
unfolding triode f32 of_bits neg lt
returns c = rw (c.clamp.ensures.value, clamp-is minus_one one c.lookup.result refl, c.lookup.ensures, c.index_of-i.ensures.0, c.place_of-place.ensures)
