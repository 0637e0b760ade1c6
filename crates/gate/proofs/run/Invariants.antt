-- The loop of `gate::run`: so many turns of full blocks, which carried what was read to what is written. Assumes nothing.
use Rattle.gate.specs.Carried.{CarriedThrough}
use Rattle.gate.proofs.run.Given as goal

abbrev pub invariant-loop : goal.invariant-loop
invariant-loop g l = CarriedThrough (g.R.Read.remaining l.initial.from) (g.R.Read.remaining l.from) (g.W.Write.contents l.initial.to) (g.W.Write.contents l.to) l.turn l.counter
