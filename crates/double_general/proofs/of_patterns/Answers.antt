-- `double_general::of_patterns` meets its contract. Assumes nothing.
use Rattle.std.proofs.Common.{ℕ, ◌+◌, ◌-◌, ◌*◌, ◌%◌, ◌<◌, ◌≤◌, sym, subst, le_trans, le_of_eq, arith}
use lib.Pow.{shr_le}
use lib.Ieee.{binary64}
use Rattle.rounding.proofs.Fused.{stick-le}
use Rattle.rounding.proofs.Terms.{significand-lt, product_lt, exponent-le, fma-of-terms}
use Rattle.double_general.proofs.of_patterns.Goals as goal

pub aligned-w-requires : goal.aligned-w-requires
aligned-w-requires c =
    let z = c.part_of-z in
    let y = c.part_of-y in
    let x = c.part_of-x in
    let a = c.args in
    let x_lt = subst (λ (v : ℕ). v < 9007199254740992) (sym x.ensures.0) (significand-lt binary64 (a.a % 9223372036854775808)) in
    let y-lt = subst (λ (v : ℕ). v < 9007199254740992) (sym y.ensures.0) (significand-lt binary64 (a.b % 9223372036854775808)) in
    let z-lt = subst (λ (v : ℕ). v < 9007199254740992) (sym z.ensures.0) (significand-lt binary64 (a.c % 9223372036854775808)) in
    let p-lt : x.result.m * y.result.m < 81129638414606681695789005144064 = product_lt binary64 x.result.m y.result.m x_lt y-lt in
    record { p_bound = p-lt; m_bound = z-lt }

pub total-requires : goal.total-requires
total-requires c =
    let z = c.part_of-z in
    let y = c.part_of-y in
    let x = c.part_of-x in
    let a = c.args in
    let x_lt = subst (λ (v : ℕ). v < 9007199254740992) (sym x.ensures.0) (significand-lt binary64 (a.a % 9223372036854775808)) in
    let y-lt = subst (λ (v : ℕ). v < 9007199254740992) (sym y.ensures.0) (significand-lt binary64 (a.b % 9223372036854775808)) in
    let z-lt = subst (λ (v : ℕ). v < 9007199254740992) (sym z.ensures.0) (significand-lt binary64 (a.c % 9223372036854775808)) in
    let p-lt : x.result.m * y.result.m < 81129638414606681695789005144064 = product_lt binary64 x.result.m y.result.m x_lt y-lt in
    let w = c.aligned-w in
    let p = x.result.m * y.result.m in
    let ex = c.exponent_of-e in
    let e-le : ex.result ≤ x.result.k + y.result.k = le_trans (le_of_eq ex.ensures) (exponent-le p (x.result.k + y.result.k)) in
    let s = z.result.k + 1021 - ex.result in
    let t = ex.result - (z.result.k + 1021) in
    let u-le = stick-le (p * 262144) s in
    let v-le = stick-le (z.result.m * 2361183241434822606848) t in
    let u-cut = shr_le (p * 262144) s in
    let v-cut = shr_le (z.result.m * 2361183241434822606848) t in
    let xk : x.result.k ≤ 2046 = omega (arith, x.ensures.1) in
    let yk : y.result.k ≤ 2046 = omega (arith, y.ensures.1) in
    let zk : z.result.k ≤ 2046 = omega (arith, z.ensures.1) in
    record { u_bound = omega (arith, w.ensures.u_value); v_bound = omega (arith, w.ensures.v_value); e_least = omega (arith, w.ensures.e_value); e_bound = omega (arith, w.ensures.e_value) }

pub returns : goal.returns
returns c =
    let z = c.part_of-z in
    let y = c.part_of-y in
    let x = c.part_of-x in
    let a = c.args in
    let pre = c.requires in
    let w = c.aligned-w in
    let ex = c.exponent_of-e in
    fma-of-terms binary64 a.a a.b a.c pre.a_finite pre.b_finite pre.c_finite
    x.result.m x.result.k y.result.m y.result.k z.result.m z.result.k ex.result w.result.u w.result.v w.result.e c.total.result
    x.ensures.0 x.ensures.1 y.ensures.0 y.ensures.1 z.ensures.0 z.ensures.1 ex.ensures w.ensures.u_value w.ensures.v_value w.ensures.e_value c.total.ensures
