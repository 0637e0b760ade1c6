-- `bits::nearest` meets its contract. Assumes nothing.
use mathlib.Core.Path.{◌≡◌, sym, ap, ◌∙◌}
use Prim.Native.Nat.{ℕ, ◌+◌, ◌-◌, ◌*◌, ◌/◌, ◌%◌, ◌^◌}
use native.Mathlib.Omega.{arith}
use lib.Ieee.Nearest.{closest}
use Rattle.rounding.proofs.Machine.{Halves, halves, nearest-is, nearest-own}
use Rattle.bits.proofs.nearest.Goals as goal

pub returns-then-i-eq0 : goal.returns-then-i-eq0
returns-then-i-eq0 c = let a = c.args in sym (ap (λ (x : ℕ). closest a.n (2 ^ x)) c.if-i-eq0.true ∙ nearest-own a.n)

-- past the tests i is from 1 to 63
known : (c : goal.Else-i-gt63) → Halves c.args.n c.args.i
known c = halves c.args.n c.args.i (omega arith) (omega (arith, c.if-i-eq0.false)) (omega arith)

-- what the code gives is what the law speaks of
is : (c : goal.Else-i-gt63)
    → let n = c.args.n in
    let i = c.args.i in
    n / 2 ^ i + (n % (1 * 2 ^ i % 18446744073709551616) + (1 * 2 ^ (i - 1) % 18446744073709551616 - 1) + n / 2 ^ i % 2) / 2 ^ i ≡ closest n (2 ^ i)
is c = rw ((known c).whole, (known c).half) (nearest-is c.args.n c.args.i (omega (arith, c.if-i-eq0.false)))

pub overflow_add-result-3 : goal.overflow_add-result-3
overflow_add-result-3 c = omega (arith, is c, (known c).up)

pub returns : goal.returns
returns c = is c
