-- `noise_gate::Gate::run_recorded` meets its contract. Assumes nothing.
use mathlib.Core.Path.{◌≡◌}
use lib.ListN.{length}
use Rattle.fold.proofs.Block.{Upto, Counted}
use Rattle.noise_gate.specs.Calls.{byte_at}
use Rattle.noise_gate_sample.specs.Step.{aim, output as given, next}
use Rattle.noise_gate.proofs.Gate.run_recorded.Given as goal

abbrev pub invariant-loop-i : goal.invariant-loop-i
invariant-loop-i l =
    let s = l.self.settings in
    Upto (next s) (given s) l.initial.now l.input l.initial.output l.now l.output l.i
    × (length l.input ≡ length l.initial.aims → Upto (next s) (byte_at s) l.initial.now l.input l.initial.aims l.now l.aims l.i)
    × Counted (next s) (aim s) l.initial.now l.input l.now l.count l.i
