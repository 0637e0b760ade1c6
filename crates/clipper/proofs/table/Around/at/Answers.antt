-- `clipper::table::Around::at` meets its contract. Assumes nothing.
use Rattle.clipper.specs.Table.{table_bits, table, entry}
use Rattle.clipper.proofs.table.Around.at.Goals as goal

pub returns : goal.returns
unfolding entry table table_bits
returns c = rw (c.saturating_sub.ensures, c.min.ensures, c.min-2.ensures)
