-- `eq_bands::names::number_of` meets its contract. Assumes nothing.
use Rattle.eq_bands.proofs.Digits.{Upto}
use Rattle.eq_bands.proofs.names.number_of.Given as goal

abbrev pub invariant-loop-d : goal.invariant-loop-d
invariant-loop-d l = Upto l.digits l.number l.d-index
