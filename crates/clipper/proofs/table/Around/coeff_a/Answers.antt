-- `clipper::table::Around::coeff_a` meets its contract. Assumes nothing.
use Rattle.std.proofs.Common.{rules}
use lib.Ieee.{of_bits, neg}
use Rattle.answer.specs.Figures.{f32}
use Rattle.clipper.specs.Process.{coeff_a}
use Rattle.clipper.proofs.table.Around.coeff_a.Goals as goal

pub returns : goal.returns
unfolding coeff_a f32 of_bits neg
returns c = search rules
