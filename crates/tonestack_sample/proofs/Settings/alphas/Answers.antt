-- `tonestack_sample::Settings::alphas` meets its contract. Assumes nothing.
use Rattle.std.proofs.Common.{rules}
use lib.Ieee.{of_bits}
use Rattle.answer.specs.Figures.{f32}
use Rattle.tonestack_sample.specs.Alpha.{alphas_of}
use Rattle.tonestack_sample.proofs.Settings.alphas.Goals as goal

pub returns : goal.returns
unfolding alphas_of f32 of_bits
returns c = search rules
