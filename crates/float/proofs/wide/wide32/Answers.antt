-- `float::wide::wide32` meets its contract. Assumes nothing.
use Rattle.std.proofs.Common.{◌≡◌, ℕ, ◌/◌, ◌%◌, ◌≤◌, T, sym, refl, ap, ◌∙◌, arith}
use lib.Ieee.{Float, binary32, binary64, of_bits, to_bits, fits, add, mul}
use lib.Ieee.Fits.{add-fits}
use lib.Ieee.Bits.{to_bits-lt}
use Rattle.rounding.specs.Fma.{fma}
use Rattle.rounding.specs.Casts.{narrow}
use Rattle.rounding.proofs.Nan.{of_nan}
use Rattle.rounding.proofs.Casts.{narrow-own}
use Rattle.rounding.proofs.ByWider.{wide-nan, wide-zero, wide-cut, cut-no-nan}
use Rattle.float.proofs.wide.wide32.Goals as goal

-- the sum, and its exponent's field
abbrev sum : Float → Float → Float → Float
sum a b c = add binary64 (mul binary64 a b) c

abbrev field : Float → ℕ
field s = to_bits binary64 s % 9223372036854775808 / 4503599627370496

pub returns-then-is_nan : goal.returns-then-is_nan
unfolding of_bits
returns-then-is_nan c hx hy hz = let a = c.args in sym (wide-nan a.a a.b a.c hx hy hz (of_nan _ (sym c.if-is_nan.ensures.value)))

pub returns-then-s : goal.returns-then-s
returns-then-s c hx hy hz =
    let a = c.args in
    wide-zero a.a a.b a.c hx hy hz c.if-s.true

-- three `f32` are the nearest to themselves
own : (x y z r : Float) → r ≡ fma binary32 (narrow x) (narrow y) (narrow z) → T (fits binary32 x) → T (fits binary32 y) → T (fits binary32 z) → r ≡ fma binary32 x y z
own x y z r e hx hy hz =
    e ∙ ap (λ (v : Float). fma binary32 v (narrow y) (narrow z)) (narrow-own x hx) ∙ ap (λ (v : Float). fma binary32 x v (narrow z)) (narrow-own y hy) ∙ ap (λ (v : Float). fma binary32 x y v) (narrow-own z hz)

pub returns-then-n-gt-ABOVE : goal.returns-then-n-gt-ABOVE
returns-then-n-gt-ABOVE c = let a = c.args in own a.a a.b a.c c.of_nearest.result c.of_nearest.ensures

-- the sum's exponent is a normal `f32`'s, and not the largest
inside : (c : goal.Else-n-gt-ABOVE) → let x = field (sum c.args.a c.args.b c.args.c) in (897 ≤ x) × (x ≤ 1149)
inside c = (omega arith, omega arith)

pub overflow_add-m : goal.overflow_add-m
overflow_add-m c =
    let a = c.args in
    let i = (inside c).1 in
    omega (arith, to_bits-lt binary64 (sum a.a a.b a.c) (add-fits binary64 (mul binary64 a.a a.b) a.c))

pub returns-then-m-eq0 : goal.returns-then-m-eq0
returns-then-m-eq0 c = let a = c.args in own a.a a.b a.c c.of_nearest-then-m-eq0.result c.of_nearest-then-m-eq0.ensures

pub float_from_bits-result : goal.float_from_bits-result
float_from_bits-result c = cut-no-nan _ (inside c.before).1

pub returns : goal.returns
returns c hx hy hz =
    let a = c.args in
    let i = inside c.before in
    wide-cut a.a a.b a.c hx hy hz _ refl i.0 i.1 c.if-m-eq0.false
