-- The figure of the settings that has a name. Definitions only.
-- Assumes nothing.
use Rattle.std.specs.Prelude.{ℕ}

-- the longest hold that can be set, in ms
abbrev pub longest_hold : ℕ
longest_hold = 500
