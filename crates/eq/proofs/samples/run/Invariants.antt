-- `eq::samples::run` meets its contract. Assumes nothing.
use Rattle.std.proofs.Common.{length, min, ◌-◌}
use Rattle.fold.proofs.Block.{Upto}
use Rattle.eq_bands.specs.Row as Row
use Rattle.eq.proofs.samples.run.Given as goal

abbrev pub invariant-loop-i : goal.invariant-loop-i
invariant-loop-i l = Upto (Row.next l.s) (Row.rounded l.s) l.initial.m l.input l.initial.output l.m l.output (min l.i (length l.input))

abbrev pub decreases-loop-i : goal.decreases-loop-i
decreases-loop-i l = length l.input - l.i
