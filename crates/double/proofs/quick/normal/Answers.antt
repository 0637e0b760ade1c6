-- `double::quick::normal` meets its contract. Assumes nothing.
use Rattle.std.proofs.Common.{◌≡◌, ℕ, ◌+◌, ◌-◌, ◌*◌, ◌%◌, ◌^◌, ◌≤◌, cond, ap, ◌∙◌, mod-eq_of_lt, arith}
use lib.Ieee.{binary64, of_bits}
use Rattle.rounding.proofs.Machine.{closest-most}
use Rattle.rounding.proofs.Nearby.{made-below}
use Rattle.double.proofs.quick.normal.Goals as goal

pub returns : goal.returns
returns c =
    let a = c.args in
    let g = c.top-g in
    let n = c.kept in
    let k = g.result.k - 1064 in
    let kept : n.result ≤ 9007199254740992 = omega (arith, n.ensures, closest-most g.result.m 10 g.ensures.m_bound (omega arith)) in
    let x : k * 4503599627370496 % 18446744073709551616 ≡ k * 4503599627370496 = mod-eq_of_lt (omega arith) in
    c.signed.ensures
    ∙ ap (λ (z : ℕ). of_bits binary64 (cond a.s 9223372036854775808 0 + (z + n.result))) x
    ∙ made-below binary64 a.s (a.n * 2 ^ a.e) g.result.m g.result.k 1074 n.result g.ensures.m_least g.ensures.m_bound g.ensures.sticky k (omega arith) n.ensures (omega arith)
