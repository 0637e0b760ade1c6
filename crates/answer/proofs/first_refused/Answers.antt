-- `answer::first_refused` meets its contract. Assumes nothing.
use Rattle.std.proofs.Common.{sym, ◌∙◌, arith}
use lib.Ieee.{nan}
use Rattle.answer.proofs.Samples.{first-most, onward, found}
use Rattle.answer.proofs.first_refused.Goals as goal

pub loop-i-preserved : goal.loop-i-preserved
loop-i-preserved c =
    (c.loop-i.invariant.0, onward _ nan c.loop-i.invariant.1 (omega arith) (sym c.is_refused.ensures ∙ c.if-is_refused.false))

pub returns-then-is_refused : goal.returns-then-is_refused
returns-then-is_refused c = found _ nan c.loop-i.invariant.1 (sym c.is_refused.ensures ∙ c.if-is_refused.true)

pub returns-after-loop-i : goal.returns-after-loop-i
returns-after-loop-i c = omega (arith, c.loop-i.invariant.0, c.loop-i.invariant.1, first-most c.args.samples.now)
