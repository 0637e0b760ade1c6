-- `fold::run` meets its contract. Assumes nothing.
use Rattle.std.proofs.Common.{refl}
use Rattle.fold.proofs.Block.{start, onward, ended}
use Rattle.fold.proofs.run.Goals as goal

pub loop-i-init : goal.loop-i-init
loop-i-init g c = start _ _ _ _ _

pub loop-i-preserved : goal.loop-i-preserved
loop-i-preserved g c =
    let given = rw c.index-input-i.is at c.step-next.ensures in
    onward _ _ c.loop-i.invariant c.requires c.index-input-i.result _ _ c.loop-i-test.true (rw given refl) (rw given refl)

pub returns-clause-left : goal.returns-clause-left
returns-clause-left g c = (ended _ _ c.loop-i.invariant c.requires c.loop-i-test.false).0

pub returns-clause-written : goal.returns-clause-written
returns-clause-written g c = (ended _ _ c.loop-i.invariant c.requires c.loop-i-test.false).1
