-- `pcm::whole_size` meets its contract. Assumes nothing.
use Prim.Native.Nat.{◌≤◌}
use native.Mathlib.Omega.{arith}
use lib.Dec.{le→leb}
use lib.Ieee.{of_bits, in_float}
use Rattle.pcm.proofs.Whole.{tie-above, tie-value, held-size, under-tie, over-tie, at-tie}
use Rattle.pcm.proofs.whole_size.Goals as goal

pub returns-then-most-n : goal.returns-then-most-n
returns-then-most-n c =
    let a = c.args in
    held-size a.most c.requires.0 a.size c.requires.1 (rw c.truncated-t.ensures.0 at c.if-most-n.true)

pub int_to_float-tie : goal.int_to_float-tie
unfolding in_float
int_to_float-tie c =
    let small : c.truncated-t.result.whole ≤ 0x100_0000 = omega arith in
    le→leb _ _ small

pub returns-then-size-tie : goal.returns-then-size-tie
unfolding of_bits
returns-then-size-tie c =
    let a = c.args in
    let p = c.requires in
    let n = c.truncated-t.result.whole in
    under-tie a.most p.0 n c.if-most-n.false a.size (tie-above n) c.truncated-t.ensures.0 p.1 (tie-value n (omega arith)) c.if-size-tie.true

pub returns-then-tie-size : goal.returns-then-tie-size
unfolding of_bits
returns-then-tie-size c =
    let a = c.args in
    let p = c.requires in
    let n = c.truncated-t.result.whole in
    over-tie a.most p.0 n c.if-most-n.false a.size (tie-above n) c.truncated-t.ensures.0 (tie-value n (omega arith)) c.if-tie-size.true

pub returns : goal.returns
unfolding of_bits
returns c =
    let a = c.args in
    let p = c.requires in
    let n = c.truncated-t.result.whole in
    at-tie a.most p.0 n c.if-most-n.false a.size (tie-above n) c.truncated-t.ensures.0 p.1 (tie-value n (omega arith)) c.if-size-tie.false c.if-tie-size.false
