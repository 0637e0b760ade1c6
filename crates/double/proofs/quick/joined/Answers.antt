-- `double::quick::joined` meets its contract. Assumes nothing.
use Rattle.std.proofs.Common.{◌^◌, Bool, not, T, sym, ◌∙◌, subst, arith}
use lib.Ieee.{binary64}
use Rattle.rounding.proofs.Terms.{total-like, total-less, total-more}
use Rattle.double.proofs.quick.joined.Goals as goal

pub returns-then-s-t : goal.returns-then-s-t
returns-then-s-t c =
    let a = c.args in
    c.normal.ensures ∙ total-like binary64 a.s a.t a.p a.v a.e (2 ^ 2148) (subst (λ (x : Bool). T x) (sym c.if-s-t.true) tt) ∙ sym c.requires.c_value

pub apart-requires-clause-c_value : goal.apart-requires-clause-c_value
apart-requires-clause-c_value c h =
    let a = c.args in
    c.requires.c_value ∙ sym (total-more binary64 a.s a.t a.p a.v a.e (2 ^ 2148) (subst (λ (x : Bool). T (not x)) (sym c.if-s-t.false) tt) c.if-v-p.true)

pub apart-requires-2-clause-c_value : goal.apart-requires-2-clause-c_value
apart-requires-2-clause-c_value c h =
    let a = c.args in
    c.requires.c_value ∙ sym (total-less binary64 a.s a.t a.p a.v a.e (2 ^ 2148) (subst (λ (x : Bool). T (not x)) (sym c.if-s-t.false) tt) (omega arith))
