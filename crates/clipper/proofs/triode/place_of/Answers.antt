-- `clipper::triode::place_of` meets its contract. Assumes nothing.
use Rattle.std.proofs.Common.{refl}
use lib.Ieee.{of_bits, neg, lt, le}
use Rattle.answer.specs.Figures.{f32}
use Rattle.clipper.specs.Process.{place, input_min, input_max}
use Rattle.clipper.proofs.Clamp.{clamp-is}
use Rattle.clipper.proofs.triode.place_of.Goals as goal

pub clamp-clamped-requires : goal.clamp-clamped-requires
unfolding of_bits le
clamp-clamped-requires c = tt

pub returns : goal.returns
unfolding place f32 of_bits neg lt
returns c = rw (c.clamp-clamped.ensures.value, clamp-is input_min input_max c.args.input refl)
