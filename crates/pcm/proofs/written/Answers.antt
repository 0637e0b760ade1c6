-- `pcm::written` meets its contract. Assumes nothing.
use mathlib.Core.Path.{◌∙◌}
use Prim.Native.Nat.{suc-le-suc}
use native.Mathlib.Nat.{le_trans}
use lib.Dec.{lit≤}
use lib.Ieee.{of_bits}
use Rattle.answer.specs.Figures.{f32}
use Rattle.pcm.specs.Samples.{written}
use Rattle.pcm.proofs.Whole.{absolute-size, whole-most, below_zero, not-below-zero}
use Rattle.pcm.proofs.written.Goals as goal

pub whole_size-n-requires : goal.whole_size-n-requires
whole_size-n-requires c = (lit≤ tt, rw c.size32.ensures (absolute-size _))

pub overflow_sub-result : goal.overflow_sub-result
overflow_sub-result c = rw c.whole_size-n.ensures (le_trans (whole-most _ _) (lit≤ tt))

pub whole_size-requires : goal.whole_size-requires
unfolding of_bits
whole_size-requires c = (lit≤ tt, c.if-y.false)

pub overflow_cast-result-else-y : goal.overflow_cast-result-else-y
overflow_cast-result-else-y c = record { fits = rw c.whole_size.ensures (le_trans (suc-le-suc (whole-most _ _)) (lit≤ tt)) }

pub returns-then-y : goal.returns-then-y
unfolding of_bits f32 written
returns-then-y c = rw (c.whole_size-n.ensures, c.size32.ensures) (below_zero _ c.if-y.true)

pub returns-else-y : goal.returns-else-y
unfolding of_bits f32 written
returns-else-y c = c.whole_size.ensures ∙ not-below-zero _ c.if-y.false
