-- `noise_gate::Gate::make` meets its contract. Assumes nothing.
use Rattle.std.proofs.Common.{rules}
use lib.Ieee.{of_bits}
use Rattle.answer.specs.Figures.{f32}
use Rattle.noise_gate.specs.Calls.{make, made_settings}
use Rattle.noise_gate.proofs.Gate.make.Goals as goal

pub returns-then-not-is_rate : goal.returns-then-not-is_rate
unfolding make
returns-then-not-is_rate c = search rules

pub returns-then-not-is_smoothing : goal.returns-then-not-is_smoothing
unfolding make
returns-then-not-is_smoothing c = search rules

pub returns : goal.returns
unfolding make made_settings f32 of_bits
returns c = search rules
