-- `double::nonzero` meets its contract. Assumes nothing.
use Rattle.std.proofs.Common.{sym, refl, inl, inr}
use lib.Ieee.{binary64, of_bits}
use Rattle.rounding.proofs.Nan.{of_nan, fma-nan}
use Rattle.rounding.proofs.Terms.{fma-of-patterns}
use Rattle.double.proofs.nonzero.Goals as goal
use Rattle.double.proofs.nonzero.Goals.{then-is_nan-via-then-is_nan, then-is_nan-via-else-is_nan+then-is_nan-2, then-is_nan-via-else-is_nan+else-is_nan-2+then-is_nan-3}
use Rattle.std.proofs.lemmas.Float.{T_from_true}

pub returns-then-is_nan : goal.returns-then-is_nan
unfolding of_bits
returns-then-is_nan c =
    let a = c.args in
    sym
    (fma-nan binary64 a.a a.b a.c
    (elim c.then-is_nan.branch [
      | then-is_nan-via-then-is_nan w ↦ inl (of_nan a.a (sym w.if-is_nan.ensures.value))
      | then-is_nan-via-else-is_nan+then-is_nan-2 w ↦ inr (inl (of_nan a.b (sym w.if-is_nan-2.ensures.value)))
      | then-is_nan-via-else-is_nan+else-is_nan-2+then-is_nan-3 w ↦ inr (inr (of_nan a.c (sym w.if-is_nan-3.ensures.value)))
    ]))

pub close-requires-clause-c_value : goal.close-requires-clause-c_value
close-requires-clause-c_value c =
    let a = c.args in
    sym (fma-of-patterns binary64 a.a a.b a.c _ (T_from_true _ c.well_formed.0.1) (T_from_true _ c.well_formed.1.0.1) (T_from_true _ c.well_formed.1.1.0.1) refl)
