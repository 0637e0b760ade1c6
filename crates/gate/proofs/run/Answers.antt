-- `gate::run` meets its contract. Assumes nothing.
use Rattle.gate.proofs.CarriedAll.{begins, goes, ends}
use Rattle.gate.proofs.run.Goals as goal

pub loop-init : goal.loop-init
loop-init g c = begins _ _ c.program_gate.result c.program_gate.ensures

pub loop-preserved : goal.loop-preserved
loop-preserved g c = goes _ _ _ _ _ _ _ _ _ _ c.loop.invariant c.in_ok-next.ensures.carried c.if-n-lt-BLOCK.false

pub returns-then-n-lt-BLOCK-clause-carried : goal.returns-then-n-lt-BLOCK-clause-carried
returns-then-n-lt-BLOCK-clause-carried g c = ends _ _ _ _ _ _ _ _ _ _ c.loop.invariant c.in_ok-next.ensures.carried c.if-n-lt-BLOCK.true
