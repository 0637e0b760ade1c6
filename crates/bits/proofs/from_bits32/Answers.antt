-- `bits::from_bits32` meets its contract. Assumes nothing.
use Rattle.std.proofs.Common.{sym, ◌∙◌}
use native.Mathlib.Omega.{arith}
use Rattle.std.specs.Float.{binary32}
use Rattle.rounding.proofs.Nan.{above}
use Rattle.bits.proofs.from_bits32.Goals as goal

pub returns-then-n-gt-INFINITY32 : goal.returns-then-n-gt-INFINITY32
returns-then-n-gt-INFINITY32 c = above binary32 2143289344 (omega arith) ∙ sym (above binary32 _ c.if-n-gt-INFINITY32.true)
