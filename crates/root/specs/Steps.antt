-- What the steps of the root compute, on plain numbers, for the contracts of its inner functions. A reader of `root` itself needs none of it. Definitions only.
-- Assumes nothing.
use Rattle.std.specs.Prelude.{ℕ, ◌+◌, ◌-◌, ◌*◌, ◌<◌}

-- q is the whole number nearest to the root of n: q - 1/2 < root < q + 1/2, doubled and squared. A root is never halfway, as 4 * n is no odd square.
pub record NearestWhole (n q : ℕ) : Type 0 where
  pub some : 0 < q
  pub above : (2 * q - 1) * (2 * q - 1) < 4 * n
  pub below : 4 * n < (2 * q + 1) * (2 * q + 1)
