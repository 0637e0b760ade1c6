-- The figures of the step that have a name. Definitions only.
-- Assumes nothing.
use Rattle.std.specs.Prelude.{ℕ, Float}
use Rattle.answer.specs.Figures.{f32}

-- 0.999: the state from which the gain is 1
abbrev pub wide_open : Float
wide_open = f32 999 1000

-- where the quiet count stops
abbrev pub longest_quiet : ℕ
longest_quiet = 4294967295
