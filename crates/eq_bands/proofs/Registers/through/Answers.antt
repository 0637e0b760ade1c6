-- `eq_bands::Registers::through` meets its contract. Assumes nothing.
use Rattle.std.proofs.Common.{◌≡◌, length, rules}
use Rattle.eq_bands.proofs.InRow.{onward, ended, all-bands}
use Rattle.eq_bands.proofs.Registers.through.Goals as goal

pub loop-k-preserved : goal.loop-k-preserved
loop-k-preserved c =
    let sixteen : length c.args.s.now.bands ≡ 16 = search rules in
    onward c.loop-k.invariant sixteen _ _ _ _ c.loop-k-test.true c.over.ensures

pub returns : goal.returns
returns c =
    let sixteen : length c.args.s.now.bands ≡ 16 = search rules in
    let e = ended c.loop-k.invariant sixteen c.loop-k-test.false in
    all-bands _ _ _ _ _ e.0 e.1
