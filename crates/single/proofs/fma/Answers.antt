-- `single::fma` meets its contract. Assumes nothing.
use Rattle.std.proofs.Common.{◌≡◌, ℕ, ◌+◌, ◌-◌, ◌/◌, ◌%◌, ◌≤◌, Bool, not, T, sym, refl, subst, inl, inr, arith}
use lib.Ieee.{Float, binary32, binary64, of_bits, to_bits, add, mul}
use lib.Ieee.Fits.{add-fits}
use lib.Ieee.Bits.{to_bits-lt, nan_bits_is}
use Rattle.rounding.specs.Fma.{fma}
use Rattle.rounding.proofs.Nan.{of_nan, fma-nan}
use Rattle.rounding.proofs.Zero.{is_zero, zero-factor, zero-third}
use Rattle.rounding.proofs.WideSum.{product-zero, product-some}
use Rattle.rounding.proofs.ByWider.{wide-nan, wide-cut, wide_fits, cut-no-nan}
use Rattle.std.proofs.lemmas.Float.{T_from_true}
use Rattle.single.proofs.fma.Goals as goal
use Rattle.single.proofs.fma.Goals.{then-is_nan-via-then-is_nan, then-is_nan-via-else-is_nan+then-is_nan-2, then-is_nan-via-else-is_nan+else-is_nan-2+then-is_nan-3}

-- the sum as an `f64`, and its exponent's field
abbrev sum : Float → Float → Float → Float
sum a b c = add binary64 (mul binary64 a b) c

abbrev field : Float → ℕ
field s = to_bits binary64 s % 9223372036854775808 / 4503599627370496

pub returns-then-is_nan : goal.returns-then-is_nan
unfolding of_bits
returns-then-is_nan c =
    let a = c.args in
    sym
    (fma-nan binary32 a.a a.b a.c
    (elim c.then-is_nan.branch [
      | then-is_nan-via-then-is_nan w ↦ inl (of_nan a.a (sym w.if-is_nan.ensures.value))
      | then-is_nan-via-else-is_nan+then-is_nan-2 w ↦ inr (inl (of_nan a.b (sym w.if-is_nan-2.ensures.value)))
      | then-is_nan-via-else-is_nan+else-is_nan-2+then-is_nan-3 w ↦ inr (inr (of_nan a.c (sym w.if-is_nan-3.ensures.value)))
    ]))

pub returns-then-is_nan-4 : goal.returns-then-is_nan-4
unfolding of_bits
returns-then-is_nan-4 c =
    let a = c.args in
    sym (wide-nan a.a a.b a.c (T_from_true _ c.well_formed.0.1) (T_from_true _ c.well_formed.1.0.1) (T_from_true _ c.well_formed.1.1.0.1) (of_nan _ (sym c.if-is_nan-4.ensures.value)))

pub returns-then-p : goal.returns-then-p
returns-then-p c =
    let a = c.args in
    zero-factor binary32 a.a a.b a.c (product-zero a.a a.b (T_from_true _ c.well_formed.0.1) (T_from_true _ c.well_formed.1.0.1) c.if-p.true)

pub returns-then-c : goal.returns-then-c
returns-then-c c =
    let a = c.args in
    let f = product-some a.a a.b a.c c.if-is_nan-4.ensures.not_nan c.if-p.false in
    zero-third binary32 a.a a.b a.c f.0 f.1 (is_zero binary32 a.c c.if-c.true)

pub overflow_add-m : goal.overflow_add-m
overflow_add-m c =
    let a = c.args in
    omega (arith, to_bits-lt binary64 (sum a.a a.b a.c) (add-fits binary64 (mul binary64 a.a a.b) a.c))

pub float_from_bits-result : goal.float_from_bits-result
float_from_bits-result c = cut-no-nan _ (omega arith)

-- past the four tests the cut is the sum rounded once
field-cut : (c : goal.After-row_known-4-1) → let x = field (sum c.args.a c.args.b c.args.c) in (897 ≤ x) × (x ≤ 1149)
field-cut c = (omega arith, omega arith)

cut : (c : goal.After-row_known-4-1) → let n = to_bits binary64 (sum c.args.a c.args.b c.args.c) in of_bits binary64 (n + 268435456 - (n + 268435456) % 536870912) ≡ fma binary32 c.args.a c.args.b c.args.c
cut c =
    let a = c.args in
    let i = field-cut c in
    wide-cut a.a a.b a.c (T_from_true _ c.well_formed.0.1) (T_from_true _ c.well_formed.1.0.1) (T_from_true _ c.well_formed.1.1.0.1) (to_bits binary64 (sum a.a a.b a.c)) refl i.0 i.1 c.if-m-eq0.false

pub float_to_float-result : goal.float_to_float-result
float_to_float-result c =
    let a = c.args in
    let n = cut-no-nan (to_bits binary64 (sum a.a a.b a.c)) (field-cut c).1 in
    wide_fits _ a.a a.b a.c (cut c) (subst (λ (b : Bool). T (not b)) (nan_bits_is binary64 _) n)

pub returns : goal.returns
returns c = cut c
