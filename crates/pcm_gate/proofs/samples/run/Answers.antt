-- `pcm_gate::samples::run` meets its contract. Assumes nothing.
use Rattle.std.proofs.Common.{rules}
use mathlib.Core.Path.{◌≡◌, sym, ◌∙◌}
use native.Mathlib.Omega.{arith}
use Prim.Native.Nat.{◌<◌, ◌≤◌, ◌/◌}
use lib.ListN.{length, get_or}
use Rattle.fold.specs.Fold.{more}
use Rattle.fold.proofs.Block.{counts, skips, start-count, onward-count, ended-count}
use Rattle.noise_gate_sample.specs.Step.{step}
use Rattle.pcm_gate.specs.Bytes.{words_of}
use Rattle.pcm_gate.specs.Pass.{next, output, aim}
use Rattle.pcm_gate.proofs.Pairs.{words-long, word-at, start, onward, ended}
use Rattle.pcm_gate.proofs.samples.run.Goals as goal
use Rattle.pcm_gate.proofs.samples.run.Goals.{then-stepped, else-stepped}

pub loop-k-init : goal.loop-k-init
loop-k-init c = (start _ _ _ _ _, start-count _ _ _ _)

pub overflow_add-count : goal.overflow_add-count
overflow_add-count c = let few = c.loop-k.invariant.1.few in search rules

pub loop-k-preserved : goal.loop-k-preserved
unfolding step next output aim
loop-k-preserved c =
    let u = c.loop-k.invariant in
    let k = c.loop-k.k in
    let input = c.args.input.now in
    let long = words-long input in
    let h : k < length input / 2 = omega (arith, c.loop-k-test.true, c.as_chunks.ensures.front_len) in
    let w : c.from_le_bytes.result ≡ get_or (words_of input) k 0 = rw (c.from_le_bytes.ensures, c.as_chunks.ensures.front) (sym (word-at input k h)) in
    let x = c.heard-x.ensures in
    let e = c.step-stepped.ensures in
    let y = c.written.ensures in
    let b = c.to_le_bytes.ensures in
    let high : get_or c.to_le_bytes.result 1 0 ≡ c.written.result / 0x100 = rw b (omega (arith, c.written.type_inv)) in
    let n : c.if-stepped.count ≡ more c.step-stepped.result.aim c.loop-k.count = elim c.if-stepped.branch [
      | then-stepped w ↦ counts c.loop-k.count w.if-stepped.true w.count-is
      | else-stepped w ↦ skips c.loop-k.count w.if-stepped.false w.count-is
    ] in (
      onward _ _ u.0 _ _ _ (rw long h) (omega (arith, h, u.0.long, c.requires)) (rw (e, x, w)) (rw (b, y, e, x, w)) (high ∙ rw (y, e, x, w)),
      onward-count _ _ u.1 0 _ (rw long h) (rw (e, x, w)) (rw (e, x, w) at n),
    )

pub returns-clause-told : goal.returns-clause-told
returns-clause-told c =
    let u = c.loop-k.invariant in
    let long = words-long c.args.input.now in
    let h : length (words_of c.args.input.now) ≤ c.loop-k.k = omega (arith, c.loop-k-test.false, c.as_chunks.ensures.front_len, long) in
    rw ((ended _ _ u.0 h).0, ended-count _ _ u.1 h)

pub returns-clause-written : goal.returns-clause-written
returns-clause-written c =
    let long = words-long c.args.input.now in
    (ended _ _ c.loop-k.invariant.0 (omega (arith, c.loop-k-test.false, c.as_chunks.ensures.front_len, long))).1
