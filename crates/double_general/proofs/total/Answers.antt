-- `double_general::total` meets its contract. Assumes nothing.
use Rattle.std.proofs.Common.{◌^◌, Bool, not, T, sym, ◌∙◌, subst}
use lib.Ieee.{binary64}
use Rattle.rounding.proofs.Terms.{total-like, total-less, total-more, total-none}
use Rattle.double_general.proofs.total.Goals as goal

pub returns-then-s-t : goal.returns-then-s-t
returns-then-s-t c =
    let a = c.args in
    c.made.ensures ∙ total-like binary64 a.s a.t a.w.u a.w.v a.w.e (2 ^ 2166) (subst (λ (x : Bool). T x) (sym c.if-s-t.true) tt)

pub returns-then-w : goal.returns-then-w
returns-then-w c =
    let a = c.args in
    c.made-then-w.ensures ∙ total-less binary64 a.s a.t a.w.u a.w.v a.w.e (2 ^ 2166) (subst (λ (x : Bool). T (not x)) (sym c.if-s-t.false) tt) c.if-w.true

pub returns-then-w-2 : goal.returns-then-w-2
returns-then-w-2 c =
    let a = c.args in
    c.made-then-w-2.ensures ∙ total-more binary64 a.s a.t a.w.u a.w.v a.w.e (2 ^ 2166) (subst (λ (x : Bool). T (not x)) (sym c.if-s-t.false) tt) c.if-w-2.true

pub returns : goal.returns
returns c =
    let a = c.args in
    total-none binary64 a.s a.t a.w.u a.w.v a.w.e 1092 (subst (λ (x : Bool). T (not x)) (sym c.if-s-t.false) tt) c.if-w-2.false c.if-w.false
