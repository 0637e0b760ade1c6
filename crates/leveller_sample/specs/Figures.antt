-- The figures of the step that have a name. Definitions only.
-- Assumes nothing.
use Rattle.std.specs.Prelude.{Float}
use Rattle.answer.specs.Figures.{f32}

-- 1e-10: the least that the follower is fed
abbrev pub least : Float
least = f32 1 10000000000

abbrev pub two : Float
two = f32 2 1
