-- `double_general::made` meets its contract. Assumes nothing.
use Rattle.std.proofs.Common.{◌≡◌, ℕ, ◌+◌, ◌-◌, ◌*◌, ◌%◌, ◌^◌, min, cond, sym, ap, ◌∙◌, mod-eq_of_lt, zero-mul, arith}
use lib.Ieee.{binary64, round, of_bits}
use Rattle.rounding.proofs.Terms.{round-zero}
use Rattle.rounding.proofs.Nearby.{made-normal, made-small}
use Rattle.double_general.proofs.made.Goals as goal

pub returns-then-n-eq0 : goal.returns-then-n-eq0
returns-then-n-eq0 c =
    let a = c.args in
    c.signed.ensures ∙ sym (round-zero binary64 a.s 1092) ∙ ap (λ (x : ℕ). round binary64 a.s x (2 ^ 2166)) (sym (ap (λ (x : ℕ). x * 2 ^ a.e) c.if-n-eq0.true ∙ zero-mul (2 ^ a.e)))

pub returns-then-k-ge-NORMAL : goal.returns-then-k-ge-NORMAL
returns-then-k-ge-NORMAL c =
    let a = c.args in
    let g = c.top-g in
    let n = c.nearest-kept in
    let k = g.result.k in
    let x : (k - 1082) * 4503599627370496 % 18446744073709551616 ≡ (k - 1082) * 4503599627370496 = mod-eq_of_lt (omega (arith, g.ensures.k_bound)) in
    c.signed-then-k-ge-NORMAL.ensures
    ∙ ap (λ (z : ℕ). of_bits binary64 (cond a.s 9223372036854775808 0 + z)) (c.min.ensures ∙ ap (λ (z : ℕ). min (z + n.result) 9218868437227405312) x)
    ∙ made-normal binary64 a.s (a.n * 2 ^ a.e) g.result.m k 1092 n.result g.ensures.m_least g.ensures.m_bound g.ensures.sticky (k - 1082) (omega (arith, c.if-k-ge-NORMAL.true)) n.ensures

pub returns : goal.returns
returns c =
    let a = c.args in
    let g = c.top-g in
    let n = c.nearest in
    c.signed-2.ensures
    ∙ ap (λ (z : ℕ). of_bits binary64 (cond a.s 9223372036854775808 0 + z)) c.min-2.ensures
    ∙ made-small binary64 a.s (a.n * 2 ^ a.e) g.result.m g.result.k 1092 n.result g.ensures.m_least g.ensures.m_bound g.ensures.sticky (omega (arith, c.if-k-ge-NORMAL.false)) n.ensures
