-- `noise_gate_sample::gain` meets its contract. Assumes nothing.
use lib.Ieee.{of_bits}
use Rattle.answer.specs.Figures.{f32}
use Rattle.noise_gate_sample.specs.Step.{gain_at}
use Rattle.noise_gate_sample.proofs.gain.Goals as goal

pub returns-then-state : goal.returns-then-state
unfolding gain_at f32 of_bits
returns-then-state c = rw c.if-state.true c.fma32.ensures

pub returns-else-state : goal.returns-else-state
unfolding gain_at f32 of_bits
returns-else-state c = rw c.if-state.false
