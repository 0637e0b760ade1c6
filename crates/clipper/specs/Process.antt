-- One sample through the clipper, each step as in `ClipperType::process` and `TubeTable::process`, with their fusings. Definitions only.
-- Assumes nothing.
use Rattle.std.specs.Prelude.{ℕ, ◌+◌, ◌-◌, min, cond, pos, Float}
use Rattle.std.specs.Float.{binary32}
use Rattle.std.specs.Float.Ieee.{add, sub, mul, div, neg, lt, of_int, to_unsigned}
use Rattle.rounding.specs.Fma.{fma}
use Rattle.answer.specs.Figures.{f32, one}
use Rattle.clipper.specs.Table.{entry}
use Rattle.clipper.specs.declared.Kind.{Kind}
use Rattle.clipper.specs.declared.Kind.TheVariants.{Hard, Triode}

-- ---- the numbers of the Rust's text
abbrev pub minus_one : Float
minus_one = neg one

abbrev pub input_min : Float
input_min = neg (f32 10 1)

abbrev pub input_max : Float
input_max = f32 10 1

-- one less than the table's size
abbrev pub last : Float
last = f32 255 1

abbrev pub half : Float
half = f32 1 2

abbrev pub two : Float
two = f32 2 1

abbrev pub three_halves : Float
three_halves = f32 3 2

abbrev pub five_halves : Float
five_halves = f32 5 2

abbrev pub minus_half : Float
minus_half = neg half

abbrev pub minus_three_halves : Float
minus_three_halves = neg three_halves

-- ---- both clamps: a number below lowest is lowest, one above highest is highest, and a NaN passes
unfoldable pub clamp : Float → Float → Float → Float
clamp lowest highest x =
    let raised = cond (lt x lowest) lowest x in
    cond (lt highest raised) highest raised

-- ---- the table's curve through four neighbours, at a fraction of the way from p1 to p2
unfoldable pub coeff_a : Float → Float → Float → Float → Float
coeff_a p0 p1 p2 p3 = add binary32 (fma binary32 minus_half p0 (mul binary32 three_halves p1)) (fma binary32 minus_three_halves p2 (mul binary32 half p3))

unfoldable pub coeff_b : Float → Float → Float → Float → Float
coeff_b p0 p1 p2 p3 = add binary32 (fma binary32 five_halves (neg p1) p0) (fma binary32 two p2 (mul binary32 minus_half p3))

unfoldable pub coeff_c : Float → Float → Float
coeff_c p0 p2 = fma binary32 minus_half p0 (mul binary32 half p2)

unfoldable pub cubic : Float → Float → Float → Float → Float → Float
cubic a b c p1 fraction = fma binary32 (fma binary32 (fma binary32 a fraction b) fraction c) fraction p1

unfoldable pub interpolated : Float → Float → Float → Float → Float → Float
interpolated p0 p1 p2 p3 fraction = cubic (coeff_a p0 p1 p2 p3) (coeff_b p0 p1 p2 p3) (coeff_c p0 p2) p1 fraction

-- ---- the lookup
-- where the input lies in the table, counted in entries
unfoldable pub place : Float → Float
place input =
    let clamped = clamp input_min input_max input in
    let normalized = div binary32 (sub binary32 clamped input_min) (sub binary32 input_max input_min) in
    mul binary32 normalized last

-- the entry before it, at most 254
unfoldable pub index : Float → ℕ
index place = min (to_unsigned 64 place) 254

unfoldable pub lookup : ℕ → Float → Float
lookup i fraction = interpolated (entry (i - 1)) (entry i) (entry (min (i + 1) 255)) (entry (min (i + 2) 255)) fraction

unfoldable pub triode : Float → Float
triode input =
    let i = index (place input) in
    let fraction = sub binary32 (place input) (of_int binary32 (pos i)) in
    clamp minus_one one (lookup i fraction)

unfoldable pub hard : Float → Float
hard input = clamp minus_one one input

-- ---- the product, then clamp or table
unfoldable pub shaped : Kind → Float → Float
shaped Hard driven = hard driven
shaped Triode driven = triode driven

unfoldable pub process : Kind → Float → Float → Float
process kind input drive = shaped kind (mul binary32 input drive)
