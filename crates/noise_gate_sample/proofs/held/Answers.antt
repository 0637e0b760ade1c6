-- `noise_gate_sample::held` meets its contract. Assumes nothing.
use lib.Ieee.{of_bits}
use Rattle.answer.specs.Figures.{f32}
use Rattle.noise_gate_sample.specs.Step.{hold_samples, held}
use Rattle.noise_gate_sample.proofs.held.Goals as goal

pub returns : goal.returns
unfolding held hold_samples f32 of_bits
returns c = rw (← c.truncated.ensures.0, ← c.truncated.ensures.1)
