-- `answer::first_refused` meets its contract. Assumes nothing.
use Rattle.std.proofs.Common.{◌≡◌, ◌≤◌, length}
use Rattle.answer.specs.Checks.{first_refused}
use Rattle.answer.proofs.first_refused.Given as goal

abbrev pub invariant-loop-i : goal.invariant-loop-i
invariant-loop-i l = (l.place ≡ length l.samples) × (l.i ≤ first_refused l.samples)
