-- The figures of a 16-bit sample, each once and by name. Definitions only.
-- Assumes nothing.
use Rattle.std.specs.Prelude.{ℕ}

-- what a sample is divided by when it is read, and a number multiplied by when it is written
abbrev pub scale_in : ℕ
scale_in = 32768

abbrev pub scale_out : ℕ
scale_out = 32768

-- the size of the lowest sample that is written, and of the highest
abbrev pub lowest : ℕ
lowest = 32768

abbrev pub highest : ℕ
highest = 32767
