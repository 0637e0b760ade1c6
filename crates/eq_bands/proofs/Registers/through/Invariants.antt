-- `eq_bands::Registers::through` meets its contract. Assumes nothing.
use Rattle.eq_bands.proofs.InRow.{Upto}
use Rattle.eq_bands.proofs.Registers.through.Given as goal

abbrev pub invariant-loop-k : goal.invariant-loop-k
invariant-loop-k l = Upto l.s.bands l.initial.self.bands l.initial.samples l.self.bands l.samples l.k
