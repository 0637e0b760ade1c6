-- `wave::walk` meets its contract: whatever was walked, the answer is that of the rest. Assumes nothing.
use Prim.Native.Nat.{◌-◌}
use Rattle.wave.proofs.Budget.{Left}
use Rattle.wave.proofs.walk.Given as goal

abbrev pub invariant-loop-next : goal.invariant-loop-next
invariant-loop-next l = Left l.s l.end l.here.at l.here.rate

abbrev pub decreases-loop-next : goal.decreases-loop-next
decreases-loop-next l = l.end - l.here.at
