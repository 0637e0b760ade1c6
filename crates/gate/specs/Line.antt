-- The line that the program says at the end of its input. Definitions only.
-- Assumes nothing.
use Rattle.std.specs.Prelude.{ℕ, List, ◌++◌, codes}
use Rattle.std.specs.Fmt.{decimal}

abbrev pub counts_line : ℕ → ℕ → List ℕ
counts_line samples aimed = codes "gate: " ++ (decimal samples ++ (codes " samples, " ++ (decimal aimed ++ codes " aimed open\n")))
