-- `single::rest` meets its contract. Assumes nothing.
use Rattle.std.proofs.Common.{◌≡◌, ℕ, ◌+◌, ◌-◌, ◌/◌, ◌%◌, ◌<◌, ◌≤◌, Bool, true, not, T, ap, ◌∙◌, subst, arith}
use lib.Ieee.{Float, binary32, binary64, fits, eq, of_bits, to_bits}
use lib.Ieee.Bits.{to_bits-lt, nan_bits_is}
use lib.Ieee.Scale.{finite}
use Rattle.rounding.specs.Fma.{fma}
use Rattle.rounding.specs.Steps.{Summed}
use Rattle.rounding.proofs.Terms.{finite-no-nan}
use Rattle.rounding.proofs.Nearby.{ones-infinite, below-finite, none-zero}
use Rattle.rounding.proofs.WideSum.{finite-operands}
use Rattle.rounding.proofs.ByWider.{wide-zero, wide-away, wide-tie, wide_fits, tie-no-nan}
use Rattle.std.proofs.lemmas.Float.{T_from_true}
use Rattle.single.proofs.rest.Goals as goal
use Rattle.single.proofs.rest.Goals.{then-size-eq0-via-then-size-eq0, then-size-eq0-via-else-size-eq0+then-e-eq-ONES, then-e-le-ABOVE+else-m-eq0, else-e-le-ABOVE+else-size-eq0+else-e-eq-ONES}

-- the field of an `f64`'s exponent
abbrev field : Float → ℕ
field s = to_bits binary64 s % 9223372036854775808 / 4503599627370496

-- a, b and c are `f32`, s is an `f64`, and it is their product and sum
record Sum (a b c s : Float) : Type 0 where
  held-a : T (fits binary32 a)
  held-b : T (fits binary32 b)
  held-c : T (fits binary32 c)
  held-s : T (fits binary64 s)
  of : Summed a b c s

sum : {a b c s : Float} → fits binary32 a ≡ true → fits binary32 b ≡ true → fits binary32 c ≡ true → fits binary64 s ≡ true → Summed a b c s → Sum a b c s
sum a b c s h = record { held-a = T_from_true _ a; held-b = T_from_true _ b; held-c = T_from_true _ c; held-s = T_from_true _ s; of = h }

abbrev Finite : Float → Float → Float → Type 0
Finite a b c = T (finite a) × (T (finite b) × T (finite c))

-- a sum that is finite has operands that are
operands : {a b c s : Float} → Sum a b c s → field s < 2047 → Finite a b c
operands {a = a} {b = b} {c = c} {s = s} m h =
    finite-operands a b c m.held-a m.held-b m.held-c (subst (λ (x : Float). T (finite x)) m.of.is (below-finite binary64 s m.held-s h))

-- ---- the exponent is a normal `f32`'s, and not the largest
sum-inside : (c : goal.Then-e-le-ABOVE) → Sum c.args.a c.args.b c.args.c c.args.s
sum-inside c = sum c.well_formed.0.1 c.well_formed.1.0.1 c.well_formed.1.1.0.1 c.well_formed.1.1.1.0.1 c.requires

field-inside : (c : goal.Then-e-le-ABOVE) → (897 ≤ field c.args.s) × (field c.args.s ≤ 1149)
field-inside c = (omega arith, omega arith)

finite-inside : (c : goal.Then-e-le-ABOVE) → Finite c.args.a c.args.b c.args.c
finite-inside c = let i = (field-inside c).1 in operands (sum-inside c) (omega arith)

pub overflow_add-m : goal.overflow_add-m
overflow_add-m c = let i = (field-inside c).1 in omega (arith, to_bits-lt binary64 c.args.s (sum-inside c).held-s)

pub float_to_bits-x : goal.float_to_bits-x
float_to_bits-x c = finite-no-nan c.args.a (finite-inside c).0

pub overflow_cast-x : goal.overflow_cast-x
overflow_cast-x c = omega (arith, to_bits-lt binary32 c.args.a (sum-inside c).held-a)

pub float_to_bits-y : goal.float_to_bits-y
float_to_bits-y c = finite-no-nan c.args.b (finite-inside c).1.0

pub overflow_cast-y : goal.overflow_cast-y
overflow_cast-y c = omega (arith, to_bits-lt binary32 c.args.b (sum-inside c).held-b)

pub float_to_bits-z : goal.float_to_bits-z
float_to_bits-z c = finite-no-nan c.args.c (finite-inside c).1.1

pub overflow_cast-z : goal.overflow_cast-z
overflow_cast-z c = omega (arith, to_bits-lt binary32 c.args.c (sum-inside c).held-c)

pub float_from_bits-result : goal.float_from_bits-result
float_from_bits-result c =
    tie-no-nan _ (omega arith)

-- past the three tests the sum is halfway between two `f32`, and exact
field-tied : (c : goal.After-row_known-1) → (897 ≤ field c.args.s) × (field c.args.s ≤ 1149)
field-tied c = (omega arith, omega arith)

tied : (c : goal.After-row_known-1) → let n = to_bits binary64 c.args.s in of_bits binary64 (n + 268435456 - (n + 268435456) % 1073741824) ≡ fma binary32 c.args.a c.args.b c.args.c
tied c =
    let a = c.args in
    let m = sum c.well_formed.0.1 c.well_formed.1.0.1 c.well_formed.1.1.0.1 c.well_formed.1.1.1.0.1 c.requires in
    let i = field-tied c in
    wide-tie a.a a.b a.c m.held-a m.held-b m.held-c (to_bits binary64 a.s) (ap (λ (x : Float). to_bits binary64 x) c.requires.is) i.0 i.1
    c.if-m-eq0.true c.if-e-x.true c.if-e-z.true

pub float_to_float-result : goal.float_to_float-result
float_to_float-result c =
    let a = c.args in
    wide_fits _ a.a a.b a.c (tied c) (subst (λ (b : Bool). T (not b)) (nan_bits_is binary64 _) (tie-no-nan (to_bits binary64 a.s) (field-tied c).1))

pub returns-then-e-z : goal.returns-then-e-z
returns-then-e-z c = tied c

-- ---- s is zero or infinite
zero : {a b c s : Float} → Sum a b c s → to_bits binary64 s % 9223372036854775808 ≡ 0 → s ≡ fma binary32 a b c
zero {a = a} {b = b} {c = c} {s = s} m h =
    let e = m.of.is in
    e ∙ wide-zero a b c m.held-a m.held-b m.held-c (subst (λ (x : Float). eq x (of_bits binary64 0) ≡ true) e (none-zero binary64 s m.held-s h))

infinite : {a b c s : Float} → Sum a b c s → field s ≡ 2047 → s ≡ fma binary32 a b c
infinite {a = a} {b = b} {c = c} {s = s} m h =
    let e = m.of.is in
    e ∙ wide-away a b c m.held-a m.held-b m.held-c (subst (λ (x : Float). T (not (finite x))) e (ones-infinite binary64 s m.held-s h))

exact : (c : goal.After-row_known-then-size-eq0-1) → c.args.s ≡ fma binary32 c.args.a c.args.b c.args.c
exact c =
    let m = sum c.well_formed.0.1 c.well_formed.1.0.1 c.well_formed.1.1.0.1 c.well_formed.1.1.1.0.1 c.requires in
    elim c.then-size-eq0.branch [
      | then-size-eq0-via-then-size-eq0 w ↦ zero m w.if-size-eq0.true
      | then-size-eq0-via-else-size-eq0+then-e-eq-ONES w ↦ infinite m w.if-e-eq-ONES.true
    ]

pub float_to_float-result-then-size-eq0 : goal.float_to_float-result-then-size-eq0
float_to_float-result-then-size-eq0 c = wide_fits c.args.s c.args.a c.args.b c.args.c (exact c) c.requires.number

pub returns-then-size-eq0 : goal.returns-then-size-eq0
returns-then-size-eq0 c = exact c

-- ---- what is left is finite
left : (c : goal.Joined-e-le-ABOVE) → Finite c.args.a c.args.b c.args.c
left c =
    let m = sum c.well_formed.0.1 c.well_formed.1.0.1 c.well_formed.1.1.0.1 c.well_formed.1.1.1.0.1 c.requires in
    elim c.if-e-le-ABOVE.branch [
      | then-e-le-ABOVE+else-m-eq0 w ↦
          let i = w.if-e-le-ABOVE.true in
          operands m (omega arith)
      | else-e-le-ABOVE+else-size-eq0+else-e-eq-ONES w ↦
          let apart = w.if-e-eq-ONES.false in
          operands m (omega arith)
    ]

pub whole-requires : goal.whole-requires
whole-requires c = let h = left c in record { a_finite = h.0; b_finite = h.1.0; c_finite = h.1.1 }
