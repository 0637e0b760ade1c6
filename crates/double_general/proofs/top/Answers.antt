-- `double_general::top` meets its contract. Assumes nothing.
use Rattle.std.proofs.Common.{arith}
use Rattle.rounding.proofs.Machine.{zeros-ge, cut}
use Rattle.double_general.proofs.top.Goals as goal

pub overflow_sub-t : goal.overflow_sub-t
overflow_sub-t c = zeros-ge 126 c.args.n (omega arith) (omega arith)

pub overflow_cast-result : goal.overflow_cast-result
overflow_cast-result c = let m = cut c.args.n c.args.e c.sticky128.result (omega arith) (omega arith) (omega arith) c.sticky128.ensures in omega (arith, m.1)

pub returns : goal.returns
returns c =
    let m = cut c.args.n c.args.e c.sticky128.result (omega arith) (omega arith) (omega arith) c.sticky128.ensures in
    record { m_least = m.0; m_bound = m.1; sticky = m.2; k_bound = omega arith }
