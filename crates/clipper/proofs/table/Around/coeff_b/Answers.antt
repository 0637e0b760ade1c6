-- `clipper::table::Around::coeff_b` meets its contract. Assumes nothing.
use Rattle.std.proofs.Common.{rules}
use lib.Ieee.{of_bits, neg}
use Rattle.answer.specs.Figures.{f32}
use Rattle.clipper.specs.Process.{coeff_b}
use Rattle.clipper.proofs.table.Around.coeff_b.Goals as goal

pub returns : goal.returns
unfolding coeff_b f32 of_bits neg
returns c = search rules
