-- What truncation says beside the whole number that it gives back: document 02's W9. Definitions only.
-- Assumes nothing.
use Rattle.std.specs.Prelude.{ℕ, false, cond, pos, Float}
use Rattle.std.specs.Float.{fin}
use Rattle.std.specs.Float.Ieee.{eq, to_unsigned}
use Rattle.float.specs.declared.Exactness.{Exactness}
use Rattle.float.specs.declared.Exactness.TheVariants.{Exact, Cut}

-- the number n, however long
abbrev pub itself : ℕ → Float
itself n = fin false n (pos 0)

-- exact exactly if the number given back equals the number taken, by their exact values: -0 equals 0, and NaN nothing
unfoldable pub exactness : Float → Exactness
exactness x = cond (eq (itself (to_unsigned 64 x)) x) Exact Cut

-- the word as a host has it; 0 is no word at all
abbrev pub number : Exactness → ℕ
number Exact = 1
number Cut = 2
