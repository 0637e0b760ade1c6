-- `bits::from_bits64` meets its contract. Assumes nothing.
use Rattle.std.proofs.Common.{sym, ◌∙◌}
use native.Mathlib.Omega.{arith}
use Rattle.std.specs.Float.{binary64}
use Rattle.rounding.proofs.Nan.{above}
use Rattle.bits.proofs.from_bits64.Goals as goal

pub returns-then-n-gt-INFINITY64 : goal.returns-then-n-gt-INFINITY64
returns-then-n-gt-INFINITY64 c = above binary64 9221120237041090560 (omega arith) ∙ sym (above binary64 _ c.if-n-gt-INFINITY64.true)
