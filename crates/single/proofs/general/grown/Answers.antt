-- `single::general::grown` meets its contract. Assumes nothing.
use Rattle.std.proofs.Common.{◌≡◌, ℕ, ◌-◌, ◌*◌, ◌%◌, ◌^◌, ap, ◌∙◌, mod-eq_of_lt, arith}
use lib.Count.{count_leading_zeros}
use Rattle.rounding.proofs.Machine.{zeros-ge, zeros-le, grown-ge, grown-lt, shifted_back}
use Rattle.single.proofs.general.grown.Goals as goal

pub overflow_cast-t : goal.overflow_cast-t
overflow_cast-t c = omega (arith, zeros-le 62 c.args.n (omega arith) (omega arith))

pub overflow_sub-t : goal.overflow_sub-t
overflow_sub-t c = zeros-ge 62 c.args.n (omega arith) (omega arith)

pub overflow_shl-result : goal.overflow_shl-result
overflow_shl-result c = omega (arith, zeros-le 62 c.args.n (omega arith) (omega arith))

pub overflow_sub-result : goal.overflow_sub-result
overflow_sub-result c = omega (arith, zeros-le 62 c.args.n (omega arith) (omega arith))

pub returns : goal.returns
returns c =
    let n = c.args.n in
    let e = c.args.e in
    let t = count_leading_zeros 64 n - 1 in
    let z = zeros-le 62 n (omega arith) (omega arith) in
    let lo = grown-ge 62 n (omega arith) (omega arith) in
    let hi = grown-lt 62 n (omega arith) (omega arith) in
    let m : n * 2 ^ t % 18446744073709551616 ≡ n * 2 ^ t = mod-eq_of_lt (omega arith) in
    record { m_least = omega arith; m_bound = omega arith; k_value = ap (λ (x : ℕ). x * 2 ^ (e - t)) m ∙ shifted_back n t e (omega arith); k_le_e = omega arith; e_bound = omega arith }
