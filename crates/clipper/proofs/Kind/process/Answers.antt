-- `clipper::Kind::process` meets its contract. Assumes nothing.
use Rattle.std.proofs.Common.{rules, refl}
use lib.Ieee.{of_bits, neg, lt}
use Rattle.answer.specs.Figures.{f32, one}
use Rattle.clipper.specs.Process.{process, shaped, hard, minus_one}
use Rattle.clipper.proofs.Clamp.{clamp-is}
use Rattle.clipper.proofs.Kind.process.Goals as goal

pub returns-in-Hard : goal.returns-in-Hard
unfolding process shaped hard f32 of_bits neg lt
returns-in-Hard c = rw (c.settled32.ensures, c.clamp.ensures.value, clamp-is minus_one one _ refl, c.in-Hard.is)

pub returns-in-Triode : goal.returns-in-Triode
unfolding process shaped
returns-in-Triode c = search rules
