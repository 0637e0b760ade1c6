-- Numbers as document 01 writes them, and the limits that every stage has, each once and by name. Definitions only.
-- Assumes nothing.
use Rattle.std.specs.Prelude.{ℕ, false, pos, Float}
use Rattle.std.specs.Float.{fin, binary32, binary64}
use Rattle.std.specs.Float.Ieee.{round}

-- the f32 and the f64 nearest to n / d
unfoldable pub f32 : ℕ → ℕ → Float
unfolding round
f32 n d = round binary32 false n d

unfoldable pub f64 : ℕ → ℕ → Float
unfolding round
f64 n d = round binary64 false n d

abbrev pub nought : Float
nought = fin false 0 (pos 0)

abbrev pub one : Float
one = fin false 1 (pos 0)

-- a sample rate, in Hz
abbrev pub lowest_rate : ℕ
lowest_rate = 8000

abbrev pub highest_rate : ℕ
highest_rate = 192000

-- the size of a sample
abbrev pub largest_sample : ℕ
largest_sample = 64

-- the length of a block, in samples
abbrev pub longest_block : ℕ
longest_block = 4096
