-- `pcm_gate::samples::run` meets its contract. Assumes nothing.
use Rattle.fold.proofs.Block.{Counted}
use Rattle.pcm_gate.specs.Bytes.{words_of}
use Rattle.pcm_gate.specs.Pass.{next, output as given, aim}
use Rattle.pcm_gate.proofs.Pairs.{Upto}
use Rattle.pcm_gate.proofs.samples.run.Given as goal

abbrev pub invariant-loop-k : goal.invariant-loop-k
invariant-loop-k l =
    let s = l.g.settings in
    let words = words_of l.input in
    Upto (next s) (given s) l.initial.now words l.initial.output l.now l.output l.k × Counted (next s) (aim s) l.initial.now words l.now l.count l.k
