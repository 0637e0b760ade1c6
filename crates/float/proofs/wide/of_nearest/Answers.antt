-- `float::wide::of_nearest` meets its contract. Assumes nothing.
use Rattle.std.proofs.Common.{refl}
use Rattle.float.proofs.wide.of_nearest.Goals as goal

pub returns : goal.returns
returns c =
    rw
    (c.widened.ensures, c.fma.ensures, c.narrowed-3.ensures, c.narrowed-2.ensures, c.narrowed.ensures)
    refl
