-- `common::frequencies::model_corners` meets its contract. Assumes nothing.
use lib.Ieee.{of_bits}
use Rattle.answer.specs.Figures.{f32}
use Rattle.common.specs.Frequencies.{model_corners}
use Rattle.common.proofs.frequencies.model_corners.Goals as goal

pub returns-in-Modern : goal.returns-in-Modern
unfolding model_corners f32 of_bits
returns-in-Modern c = rw c.in-Modern.is

pub returns-in-British : goal.returns-in-British
unfolding model_corners f32 of_bits
returns-in-British c = rw c.in-British.is

pub returns-in-American : goal.returns-in-American
unfolding model_corners f32 of_bits
returns-in-American c = rw c.in-American.is

pub returns-in-Flat : goal.returns-in-Flat
unfolding model_corners f32 of_bits
returns-in-Flat c = rw c.in-Flat.is
