-- `noise_gate_sample::step` meets its contract. Assumes nothing.
use mathlib.Core.Path.{◌≡◌, ◌∙◌}
use Rattle.std.specs.Prelude.{cond, ltb, ◌||◌}
use Rattle.std.specs.Float.Ieee.{lt}
use lib.Ieee.{of_bits}
use Rattle.answer.specs.Figures.{nought, one}
use Rattle.noise_gate_sample.specs.Step.{level, loud, counter, aim, target, state, gain, output, quiet, next, step}
use Rattle.noise_gate_sample.proofs.step.Goals as goal
use Rattle.noise_gate_sample.proofs.step.Goals.{then-loud, else-loud, then-aim, else-aim, then-m-target, else-m-target}

pub returns : goal.returns
unfolding step next level loud counter aim target state gain output quiet of_bits
returns c =
    let s = c.args.s in
    let aims : c.if-loud.aim ≡ (lt s.factor.0 c.followed-level.result || ltb 0 c.counted-counter.result) = elim c.if-loud.branch [
      | then-loud w ↦ w.aim-is ∙ rw w.if-loud.true
      | else-loud w ↦ w.aim-is ∙ rw w.if-loud.false
    ] in
    let aimed_at : c.if-aim.target ≡ cond c.if-loud.aim one nought = elim c.if-aim.branch [
      | then-aim w ↦ w.target-is ∙ rw w.if-aim.true
      | else-aim w ↦ w.target-is ∙ rw w.if-aim.false
    ] in
    let smoothing : c.if-m-target.c ≡ cond (lt c.args.m.state c.if-aim.target) s.attack.number s.release.number = elim c.if-m-target.branch [
      | then-m-target w ↦ w.c-is ∙ rw w.if-m-target.true
      | else-m-target w ↦ w.c-is ∙ rw w.if-m-target.false
    ] in
    rw (c.settled32-3.ensures, c.gain.ensures, c.quieted.ensures, c.settled32-2.ensures, c.settled32.ensures, c.toward-state.ensures, smoothing, aimed_at, aims, c.counted-counter.ensures, c.followed-level.ensures)
