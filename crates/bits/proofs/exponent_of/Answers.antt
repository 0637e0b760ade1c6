-- `bits::exponent_of` meets its contract. Assumes nothing.
use Rattle.std.proofs.Common.{◌*◌, sym, ◌∙◌, zero-mul, mul_comm}
use Rattle.rounding.proofs.Terms.{exponent-none, exponent-some, factor-none}
use Rattle.bits.proofs.exponent_of.Goals as goal
use Rattle.bits.proofs.exponent_of.Goals.{then-m-eq0-via-then-m-eq0, then-m-eq0-via-else-m-eq0+then-n-eq0}

pub returns-then-m-eq0 : goal.returns-then-m-eq0
returns-then-m-eq0 c =
    let a = c.args in
    sym
    (exponent-none (a.m * a.n) a.k
    (elim c.then-m-eq0.branch [
      | then-m-eq0-via-then-m-eq0 w ↦ rw w.if-m-eq0.true (zero-mul a.n)
      | then-m-eq0-via-else-m-eq0+then-n-eq0 w ↦ mul_comm a.m a.n ∙ rw w.if-n-eq0.true (zero-mul a.m)
    ]))

pub returns : goal.returns
returns c = sym (exponent-some _ c.args.k (factor-none c.args.m c.args.n c.if-m-eq0.false c.if-n-eq0.false))
