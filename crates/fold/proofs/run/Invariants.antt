-- The loop of `fold::run`: what holds after the first samples. Assumes nothing.
use Rattle.fold.proofs.Block.{Upto}
use Rattle.fold.proofs.run.Given as goal

abbrev pub invariant-loop-i : goal.invariant-loop-i
invariant-loop-i g l = Upto (g.S.Step.next l.by) (g.S.Step.given l.by) l.initial.now l.input l.initial.output l.now l.output l.i
