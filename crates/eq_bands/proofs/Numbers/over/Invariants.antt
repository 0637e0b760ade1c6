-- `eq_bands::Numbers::over` meets its contract. Assumes nothing.
use Rattle.fold.proofs.Block.{Upto}
use Rattle.eq_bands.proofs.InPlace.{Ahead}
use Rattle.eq_bands.specs.Biquad.{next, output}
use Rattle.eq_bands.proofs.Numbers.over.Given as goal

abbrev pub invariant-loop-x : goal.invariant-loop-x
invariant-loop-x l = Upto (next l.self) (output l.self) l.initial.now l.initial.samples l.initial.samples l.now l.samples l.x-index × Ahead l.initial.samples l.samples l.x-index
