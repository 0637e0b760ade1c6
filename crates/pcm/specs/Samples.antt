-- A signed 16-bit sample: the word of two bytes that it is kept as, the number that it is read as, and the sample that a number is written as. Definitions only.
-- Assumes nothing.
use Rattle.std.specs.Prelude.{ℕ, ◌-◌, ◌*◌, min, cond, ℤ, pos, negsuc, neg_ℤ, ltb, Float}
use Rattle.std.specs.Float.{nan, inf, fin, binary32}
use Rattle.std.specs.Float.Ieee.{up, down, lt, mul, div, of_int}
use Rattle.std.specs.Float.Ieee.Nearest.{closest}
use Rattle.answer.specs.Figures.{f32, nought}
use Rattle.pcm.specs.Figures.{scale_in, scale_out, lowest, highest}

-- the sample that a word stands for, and the word of a sample: a negative one is kept as 65,536 more
unfoldable pub sample_of : ℕ → ℤ
sample_of w = cond (ltb w 0x8000) (pos w) (negsuc (0xffff - w))

unfoldable pub word_of : ℤ → ℕ
word_of (pos n) = n
word_of (negsuc n) = 0xffff - n

-- in: n/32768
unfoldable pub heard : ℤ → Float
heard n = div binary32 (of_int binary32 n) (f32 scale_in 1)

-- the size of a number to the nearest whole, ties to even, held to the most that there may be; NaN as 0
unfoldable pub whole_size : ℕ → Float → ℕ
whole_size most nan = 0
whole_size most (inf s) = most
whole_size most (fin s m e) = min (closest (m * up e) (down e)) most

-- a number to the nearest whole, ties to even, held to -32768..32767, NaN as 0
unfoldable pub to_whole : Float → ℤ
to_whole y = cond (lt y nought) (neg_ℤ (pos (whole_size lowest y))) (pos (whole_size highest y))

-- out: x*32768 rounded once, then to a whole
unfoldable pub written : Float → ℤ
written x = to_whole (mul binary32 x (f32 scale_out 1))
