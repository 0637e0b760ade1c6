-- `root::nearest_root` meets its contract, whatever the guess. The first loop takes q down until q * q is below n + q, and the second up, keeping that, until n is at most q * q + q.
-- Assumes nothing.
use Rattle.std.proofs.Common.{◌+◌, ◌-◌, ◌*◌, ◌<◌, ◌≤◌}
use Rattle.root.proofs.nearest_root.Given as goal

abbrev pub invariant-loop-q : goal.invariant-loop-q
invariant-loop-q l = l.q ≤ 33554432

abbrev pub decreases-loop-q : goal.decreases-loop-q
decreases-loop-q l = l.q

abbrev pub invariant-loop-q-2 : goal.invariant-loop-q-2
invariant-loop-q-2 l = (l.q ≤ 33554432) × (l.q * l.q < l.n + l.q)

abbrev pub decreases-loop-q-2 : goal.decreases-loop-q-2
decreases-loop-q-2 l = 33554432 - l.q
