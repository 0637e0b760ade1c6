-- The gate's figures, each once and by name. Definitions only.
-- Assumes nothing.
use Rattle.std.specs.Prelude.{ℕ}

-- the hold of a made gate, in ms: document 02's W2, where document 01 has 50
abbrev pub made_hold : ℕ
made_hold = 100

-- the longest hold in samples: the counter's bound
abbrev pub longest_count : ℕ
longest_count = 96000
