-- `double::fma` meets its contract. Assumes nothing.
use Rattle.std.proofs.Common.{◌∙◌, inl, inr}
use lib.Ieee.{binary64}
use Rattle.rounding.proofs.Zero.{is_zero, zero-factor, zero-third}
use Rattle.double.proofs.fma.Goals as goal
use Rattle.double.proofs.fma.Goals.{then-a-via-then-a, then-a-via-else-a+then-b}

pub returns-then-a : goal.returns-then-a
returns-then-a c =
    let a = c.args in
    c.settled64.ensures
    ∙ zero-factor binary64 a.a a.b a.c
    (elim c.then-a.branch [ then-a-via-then-a w ↦ inl (is_zero binary64 a.a w.if-a.true) | then-a-via-else-a+then-b w ↦ inr (is_zero binary64 a.b w.if-b.true) ])

pub returns-then-c : goal.returns-then-c
returns-then-c c =
    let a = c.args in
    c.settled64-then-c.ensures
    ∙ zero-third binary64 a.a a.b a.c c.if-a.false c.if-b.false (is_zero binary64 a.c c.if-c.true)
