-- `float::casts::rounded` meets its contract. Assumes nothing.
use Rattle.std.proofs.Common.{◌∙◌, arith}
use Rattle.rounding.proofs.Casts.{rounded-normal, rounded-none, rounded-small}
use Rattle.float.proofs.casts.rounded.Goals as goal

pub returns-then-m-ge-NORMAL : goal.returns-then-m-ge-NORMAL
returns-then-m-ge-NORMAL c = c.nearest.ensures ∙ rounded-normal c.args.m c.if-m-ge-NORMAL.true

pub returns-then-x-lt-HALF_SMALLEST : goal.returns-then-x-lt-HALF_SMALLEST
returns-then-x-lt-HALF_SMALLEST c = rounded-none c.args.m c.if-x-lt-HALF_SMALLEST.true

pub returns : goal.returns
returns c = c.nearest-2.ensures ∙ rounded-small c.args.m (omega arith) (omega arith)
