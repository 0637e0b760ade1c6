-- Every row of specs/Rows.antt holds, by computing the definitions.
-- Assumes nothing.
use Rattle.std.proofs.Common.{◌≡◌, refl}
use Rattle.float.specs.Rows.{on_bits, rows, given}

pub hold : given ≡ rows
unfolding rows on_bits
hold = refl
