-- `gate::block` meets its contract: what it read is what it passed, and whole samples of that are written. Assumes nothing.
use Rattle.std.proofs.Common.{◌≡◌, length, take, arith, length-take}
use Rattle.gate.proofs.Carried.{carried}
use Rattle.gate.proofs.Turns.{over}
use Rattle.gate.proofs.block.Goals as goal

pub returns-clause-gated : goal.returns-clause-gated
returns-clause-gated g c =
    let filled = c.fill-n in
    let n = filled.result.0 in
    let same : length (take n filled.new.buffer) ≡ length (take n c.args.output.now) = simp length-take (omega arith) in
    let gated = c.in_ok-next.ensures.gated in
    over _ _ filled.new.buffer c.args.output.now n c.passed.new.output filled.ensures.counted same gated.1 gated.0

pub returns-clause-carried : goal.returns-clause-carried
returns-clause-carried g c =
    let filled = c.fill-n in
    let n = filled.result.0 in
    let read = filled.new.buffer in
    let before = c.args.output.now in
    let same : length (take n read) ≡ length (take n before) = simp length-take (omega arith) in
    let passed = c.in_ok-next.ensures in
    carried _ _ n read before c.passed.new.output _ _ _ _ filled.ensures.counted same c.passed.auto.output passed.gated.1 passed.gated.0 filled.ensures.taken (rw c.in_ok-read.was at filled.ensures.ended) passed.added
