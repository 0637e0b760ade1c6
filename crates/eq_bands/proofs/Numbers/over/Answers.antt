-- `eq_bands::Numbers::over` meets its contract. Assumes nothing.
use Rattle.std.proofs.Common.{◌<◌, length, arith, refl}
use lib.Ieee.{nan}
use Rattle.fold.proofs.Block.{onward, ended}
use Rattle.eq_bands.proofs.InPlace as ahead
use Rattle.eq_bands.proofs.Numbers.over.Goals as goal

pub loop-x-preserved : goal.loop-x-preserved
loop-x-preserved c =
    let u = c.loop-x.invariant.0 in
    let a = c.loop-x.invariant.1 in
    let h : c.loop-x.x-index < length c.loop-x.samples = omega (arith, c.loop-x-test.true, c.loop-x.invariant.0.long) in
    let h₀ : c.loop-x.x-index < length c.args.samples.now = c.loop-x-test.true in
    let given = rw (ahead.read a nan h h₀) at c.step-y.ensures in
    (onward _ _ u refl nan _ _ h₀ (rw given refl) (rw given refl), ahead.onward a nan h h₀ _)

pub returns : goal.returns
returns c =
    let e = ended _ _ c.loop-x.invariant.0 refl (omega (arith, c.loop-x.invariant.0.long, c.loop-x-test.false)) in
    rw (e.0, e.1)
