-- What a call leaves in a buffer that is longer than what it writes. Definitions only.
-- Assumes nothing.
use Rattle.std.specs.Prelude.{List, ◌++◌, length, drop}

-- a buffer with other elements at its start: what lies past them stays as it was
abbrev pub over : {A : Type 0} → List A → List A → List A
over written out = written ++ drop (length written) out
