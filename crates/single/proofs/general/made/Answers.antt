-- `single::general::made` meets its contract. Assumes nothing.
use Rattle.std.proofs.Common.{◌≡◌, ℕ, ◌+◌, ◌-◌, ◌*◌, ◌%◌, ◌^◌, min, cond, sym, ap, ◌∙◌, inl, mod-eq_of_lt, zero-mul, arith}
use lib.Ieee.{binary32, round, of_bits}
use Rattle.rounding.proofs.Terms.{round-zero}
use Rattle.rounding.proofs.Nearby.{made-normal, made-small}
use Rattle.single.proofs.general.made.Goals as goal

pub returns-then-n-eq0 : goal.returns-then-n-eq0
returns-then-n-eq0 c =
    let a = c.args in
    c.signed.ensures ∙ sym (round-zero binary32 a.s 163) ∙ ap (λ (x : ℕ). round binary32 a.s x (2 ^ 312)) (sym (ap (λ (x : ℕ). x * 2 ^ a.e) c.if-n-eq0.true ∙ zero-mul (2 ^ a.e)))

pub returns-then-k-ge-NORMAL : goal.returns-then-k-ge-NORMAL
returns-then-k-ge-NORMAL c =
    let a = c.args in
    let g = c.grown-g in
    let n = c.nearest-kept in
    let k = g.result.k in
    let x : (k - 124) * 8388608 % 18446744073709551616 ≡ (k - 124) * 8388608 = mod-eq_of_lt (omega (arith, g.ensures.k_le_e)) in
    c.signed-then-k-ge-NORMAL.ensures
    ∙ ap (λ (z : ℕ). of_bits binary32 (cond a.s 2147483648 0 + z)) (c.min.ensures ∙ ap (λ (z : ℕ). min (z + n.result) 2139095040) x)
    ∙ made-normal binary32 a.s (a.n * 2 ^ a.e) g.result.m k 163 n.result g.ensures.m_least g.ensures.m_bound (inl g.ensures.k_value) (k - 124) (omega (arith, c.if-k-ge-NORMAL.true)) n.ensures

pub returns : goal.returns
returns c =
    let a = c.args in
    let g = c.grown-g in
    let n = c.nearest in
    c.signed-2.ensures
    ∙ ap (λ (z : ℕ). of_bits binary32 (cond a.s 2147483648 0 + z)) c.min-2.ensures
    ∙ made-small binary32 a.s (a.n * 2 ^ a.e) g.result.m g.result.k 163 n.result g.ensures.m_least g.ensures.m_bound (inl g.ensures.k_value) (omega (arith, c.if-k-ge-NORMAL.false)) n.ensures
