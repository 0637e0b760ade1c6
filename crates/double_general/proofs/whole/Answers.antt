-- `double_general::whole` meets its contract. Assumes nothing.
use Rattle.std.proofs.Common.{sym, ◌∙◌, inl, inr}
use lib.Ieee.{binary64}
use Rattle.rounding.proofs.Terms.{not_finite, is_finite, fma-plain, fma-third, pattern-finite, fma-of-patterns}
use Rattle.std.proofs.lemmas.Float.{T_from_true}
use Rattle.double_general.proofs.whole.Goals as goal
use Rattle.double_general.proofs.whole.Goals.{then-not-is_finite-via-then-not-is_finite, then-not-is_finite-via-else-not-is_finite+then-not-is_finite-2}

pub returns-then-not-is_finite : goal.returns-then-not-is_finite
returns-then-not-is_finite c =
    let a = c.args in
    c.settled64.ensures
    ∙ fma-plain binary64 a.a a.b a.c
    (elim c.then-not-is_finite.branch [
      | then-not-is_finite-via-then-not-is_finite w ↦ inl (not_finite a.a (sym w.if-not-is_finite.ensures.value))
      | then-not-is_finite-via-else-not-is_finite+then-not-is_finite-2 w ↦ inr (not_finite a.b (sym w.if-not-is_finite-2.ensures.value))
    ])

pub returns-then-not-is_finite-3 : goal.returns-then-not-is_finite-3
returns-then-not-is_finite-3 c =
    let a = c.args in
    c.settled64-then-not-is_finite-3.ensures
    ∙ fma-third binary64 a.a a.b a.c (is_finite a.a (sym c.if-not-is_finite.ensures.value)) (is_finite a.b (sym c.if-not-is_finite-2.ensures.value)) (not_finite a.c (sym c.if-not-is_finite-3.ensures.value))

pub of_patterns-requires : goal.of_patterns-requires
of_patterns-requires c =
    let a = c.args in record {
      a_finite = pattern-finite binary64 a.a (T_from_true _ c.well_formed.0.1) (is_finite a.a (sym c.if-not-is_finite.ensures.value));
      b_finite = pattern-finite binary64 a.b (T_from_true _ c.well_formed.1.0.1) (is_finite a.b (sym c.if-not-is_finite-2.ensures.value));
      c_finite = pattern-finite binary64 a.c (T_from_true _ c.well_formed.1.1.0.1) (is_finite a.c (sym c.if-not-is_finite-3.ensures.value));
    }

pub returns : goal.returns
returns c =
    let a = c.args in
    fma-of-patterns binary64 a.a a.b a.c c.of_patterns.result (T_from_true _ c.well_formed.0.1) (T_from_true _ c.well_formed.1.0.1) (T_from_true _ c.well_formed.1.1.0.1) c.of_patterns.ensures
