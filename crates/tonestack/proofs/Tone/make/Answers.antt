-- `tonestack::Tone::make` meets its contract. Assumes nothing.
use Rattle.std.proofs.Common.{rules}
use lib.Ieee.{of_bits}
use Rattle.tonestack.specs.Calls.{made_settings, make}
use Rattle.tonestack.proofs.Models.{placed}
use Rattle.tonestack.proofs.Tone.make.Goals as goal

pub returns-then-not-is_rate : goal.returns-then-not-is_rate
unfolding make
returns-then-not-is_rate c = search rules

pub returns : goal.returns
unfolding make made_settings of_bits
returns c = rw (placed c.args.model) (search rules)
