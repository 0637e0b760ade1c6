-- `eq::samples::run` meets its contract. Assumes nothing.
use Rattle.std.proofs.Common.{◌≡◌, ◌+◌, min, length, arith}
use Rattle.fold.proofs.Block.{ended}
use Rattle.eq.proofs.Parts.{onward}
use Rattle.eq.proofs.samples.run.Goals as goal

pub loop-i-preserved : goal.loop-i-preserved
loop-i-preserved c =
    let here : min c.loop-i.i (length c.args.input.now) ≡ c.loop-i.i = omega arith in
    let on : min (c.loop-i.i + 64) (length c.args.input.now) ≡ c.loop-i.i + c.min-n.result = omega arith in
    rw on (onward _ _ (rw here at c.loop-i.invariant) c.requires _ (omega arith) _ _ c.run_in.ensures.0 c.run_in.ensures.1)

pub returns : goal.returns
returns c = ended _ _ c.loop-i.invariant c.requires (omega arith)
