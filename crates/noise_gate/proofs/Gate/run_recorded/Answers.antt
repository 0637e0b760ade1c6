-- `noise_gate::Gate::run_recorded` meets its contract. Assumes nothing.
use Rattle.std.proofs.Common.{rules}
use native.Mathlib.Omega.{arith}
use mathlib.Core.Path.{◌≡◌, refl}
use mathlib.Core.Bool.{Bool, true, false}
use mir.Val.{bool_byte}
use lib.Ieee.{nan}
use Rattle.fold.specs.Fold.{more}
use Rattle.fold.proofs.Block.{start, onward, ended, counts, skips, start-count, onward-count, ended-count}
use Rattle.noise_gate.specs.Calls.{byte_of}
use Rattle.noise_gate_sample.specs.Step.{step}
use Rattle.noise_gate.proofs.Gate.run_recorded.Goals as goal
use Rattle.noise_gate.proofs.Gate.run_recorded.Goals.{then-i-aims, else-i-aims, then-stepped, else-stepped}

as_byte : (b : Bool) → bool_byte b ≡ byte_of b
as_byte true = refl
as_byte false = refl

pub loop-i-init : goal.loop-i-init
loop-i-init c = (start _ _ _ _ _, λ _. start _ _ _ _ _, start-count _ _ _ _)

pub overflow_add-count : goal.overflow_add-count
overflow_add-count c = let few = c.loop-i.invariant.2.few in search rules

pub loop-i-preserved : goal.loop-i-preserved
unfolding step
loop-i-preserved c =
    let u = c.loop-i.invariant in
    let h = c.loop-i-test.true in
    let e = c.step-stepped.ensures in
    let n : c.if-stepped.count ≡ more c.step-stepped.result.aim c.loop-i.count = elim c.if-stepped.branch [
      | then-stepped w ↦ counts c.loop-i.count w.if-stepped.true w.count-is
      | else-stepped w ↦ skips c.loop-i.count w.if-stepped.false w.count-is
    ] in (
      onward _ _ u.0 c.requires nan _ _ h (rw e) (rw e),
      λ l. elim c.if-i-aims.branch [
        | then-i-aims w ↦ rw w.aims-is (onward _ _ (u.1 l) l nan _ _ h (rw e) (rw e (as_byte _)))
        | else-i-aims w ↦ absurd (omega (arith, w.if-i-aims.false, (u.1 l).long, l, h))
      ],
      onward-count _ _ u.2 nan _ h (rw e) (rw e at n),
    )

pub returns-clause-ran : goal.returns-clause-ran
returns-clause-ran c =
    let u = c.loop-i.invariant in
    let h = c.loop-i-test.false in
    let e = ended _ _ u.0 c.requires h in
    rw (e.0, e.1, ended-count _ _ u.2 h)

pub returns-clause-recorded : goal.returns-clause-recorded
returns-clause-recorded c l = (ended _ _ (c.loop-i.invariant.1 l) l c.loop-i-test.false).1
