-- `bits::sticky128` meets its contract. Assumes nothing.
use mathlib.Core.Path.{◌≡◌, sym, ap, ◌∙◌}
use Prim.Native.Nat.{ℕ, ◌%◌, ◌^◌}
use native.Mathlib.Omega.{arith}
use Rattle.rounding.proofs.Fused.{stick-whole}
use Rattle.rounding.proofs.Machine.{one_shl, under_pow, stick-some, stick-far, stick-none}
use Rattle.rounding.specs.Steps.{stick}
use Rattle.bits.proofs.sticky128.Goals as goal

pub returns-then-x-eq0 : goal.returns-then-x-eq0
returns-then-x-eq0 c = sym (ap (λ (x : ℕ). stick x c.args.s) c.if-x-eq0.true ∙ stick-none c.args.s)

pub returns-then-s-gt127 : goal.returns-then-s-gt127
returns-then-s-gt127 c = sym (stick-far c.args.x c.args.s (under_pow 128 c.args.x c.args.s (omega arith) c.if-s-gt127.true) c.if-x-eq0.false)

pub returns-then-x-s-eq0 : goal.returns-then-x-s-eq0
returns-then-x-s-eq0 c =
    let x = c.args.x in
    let s = c.args.s in
    sym (stick-whole x s (ap (λ (z : ℕ). x % z) (sym (one_shl 128 s (omega arith))) ∙ c.if-x-s-eq0.true))

pub returns : goal.returns
returns c =
    let x = c.args.x in
    let s = c.args.s in
    sym (stick-some x s (λ (e : x % 2 ^ s ≡ 0). c.if-x-s-eq0.false (ap (λ (z : ℕ). x % z) (one_shl 128 s (omega arith)) ∙ e)))
