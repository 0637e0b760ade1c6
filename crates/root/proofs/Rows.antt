-- Every row of specs/Rows.antt holds, by computing the definition.
-- Assumes nothing.
use Rattle.std.proofs.Common.{◌≡◌, refl}
use Rattle.root.specs.Rows.{on_bits, rows, given, said}

pub hold : given ≡ said
unfolding rows on_bits
hold = refl
