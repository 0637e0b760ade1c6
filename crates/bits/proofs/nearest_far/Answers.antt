-- `bits::nearest_far` meets its contract. Assumes nothing.
use Rattle.std.proofs.Common.{◌≡◌, sym, arith}
use Rattle.rounding.proofs.Machine.{nearest-none}
use Rattle.bits.proofs.nearest_far.Goals as goal
use Rattle.bits.proofs.nearest_far.Goals.{else-i-eq64-via-then-i-eq64+else-n-gt-HALF, else-i-eq64-via-else-i-eq64}

pub returns-else-i-eq64 : goal.returns-else-i-eq64
returns-else-i-eq64 c =
    let a = c.args in
    sym
    (nearest-none a.n a.i (omega arith) (omega arith)
    (λ (e : a.i ≡ 64). elim c.else-i-eq64.branch [
      | else-i-eq64-via-then-i-eq64+else-n-gt-HALF w ↦ w.if-n-gt-HALF.false
      | else-i-eq64-via-else-i-eq64 w ↦ absurd (w.if-i-eq64.false e)
    ]))
