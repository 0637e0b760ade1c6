-- `double::quick::top` meets its contract. Assumes nothing.
use Rattle.std.proofs.Common.{arith}
use Rattle.rounding.proofs.Machine.{upper, cut-upper}
use Rattle.double.proofs.quick.top.Goals as goal

pub overflow_sub-t : goal.overflow_sub-t
overflow_sub-t c = (upper c.args.n (omega arith) (omega arith)).0

pub overflow_cast-result : goal.overflow_cast-result
overflow_cast-result c =
    let u = upper c.args.n (omega arith) (omega arith) in
    let m = cut-upper c.args.n c.args.e _ _ u.1 (omega arith) (omega arith) (omega arith) c.sticky128.ensures in
    omega (arith, m.1)

pub returns : goal.returns
returns c =
    let u = upper c.args.n (omega arith) (omega arith) in
    let m = cut-upper c.args.n c.args.e _ _ u.1 (omega arith) (omega arith) (omega arith) c.sticky128.ensures in
    record { m_least = m.0; m_bound = m.1; sticky = m.2; k_least = omega (arith, u.1.most); k_bound = omega (arith, u.1.least) }
