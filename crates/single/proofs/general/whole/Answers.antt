-- `single::general::whole` meets its contract. Assumes nothing.
use Rattle.std.proofs.Common.{arith}
use lib.Ieee.{binary32}
use lib.Ieee.Bits.{to_bits-lt}
use Rattle.rounding.proofs.Terms.{finite-no-nan, pattern-finite, fma-of-patterns}
use Rattle.single.proofs.general.whole.Goals as goal
use Rattle.std.proofs.lemmas.Float.{T_from_true}

pub float_to_bits-a : goal.float_to_bits-a
float_to_bits-a c = finite-no-nan c.args.a c.requires.a_finite

pub float_to_bits-b : goal.float_to_bits-b
float_to_bits-b c = finite-no-nan c.args.b c.requires.b_finite

pub float_to_bits-c : goal.float_to_bits-c
float_to_bits-c c = finite-no-nan c.args.c c.requires.c_finite

pub overflow_cast-a : goal.overflow_cast-a
overflow_cast-a c = omega (arith, to_bits-lt binary32 c.args.a (T_from_true _ c.well_formed.0.1))

pub overflow_cast-b : goal.overflow_cast-b
overflow_cast-b c = omega (arith, to_bits-lt binary32 c.args.b (T_from_true _ c.well_formed.1.0.1))

pub overflow_cast-c : goal.overflow_cast-c
overflow_cast-c c = omega (arith, to_bits-lt binary32 c.args.c (T_from_true _ c.well_formed.1.1.0.1))

pub of_patterns-requires : goal.of_patterns-requires
of_patterns-requires c =
    let a = c.args in
    record { a_bound = to_bits-lt binary32 a.a (T_from_true _ c.well_formed.0.1); b_bound = to_bits-lt binary32 a.b (T_from_true _ c.well_formed.1.0.1); c_bound = to_bits-lt binary32 a.c (T_from_true _ c.well_formed.1.1.0.1); a_finite = pattern-finite binary32 a.a (T_from_true _ c.well_formed.0.1) c.requires.a_finite; b_finite = pattern-finite binary32 a.b (T_from_true _ c.well_formed.1.0.1) c.requires.b_finite; c_finite = pattern-finite binary32 a.c (T_from_true _ c.well_formed.1.1.0.1) c.requires.c_finite }

pub returns : goal.returns
returns c =
    let s = c.before in
    let a = s.args in
    fma-of-patterns binary32 a.a a.b a.c c.of_patterns.result (T_from_true _ c.well_formed.0.1) (T_from_true _ c.well_formed.1.0.1) (T_from_true _ c.well_formed.1.1.0.1) c.of_patterns.ensures
