-- For a finite sample and a finite drive every step is finite, no NaN reaches the last clamp, and the output lies from -1 to 1: both kinds.
-- Assumes nothing.
use mathlib.Core.Path.{◌≡◌, refl}
use mathlib.Core.Bool.{Bool, true, false, not, cond}
use Prim.Native.Nat.{ℕ, zero, suc, ◌+◌, ◌-◌, ◌*◌, ◌^◌, ◌≤◌, ◌<◌, min}
use native.Mathlib.Omega.{arith}
use lib.IntN.{pos}
use lib.Dec.{T, ltb, lit≤, lit<}
use lib.Ieee.{Float, nan, inf, fin, Format, binary32, prec, emax, low, up, down, unlike, odd, units, round, sub, mul, div, neg, le, is_nan, of_int}
use lib.Ieee.Scale.{finite}
use Rattle.rounding.specs.Fma.{fma}
use Rattle.clipper.specs.Table.{entry}
use Rattle.answer.specs.Figures.{f32, one}
use Rattle.clipper.specs.Process.{minus_one, input_min, input_max, last, half, two, three_halves, five_halves, minus_half, minus_three_halves, clamp, coeff_a, coeff_b, coeff_c, cubic, interpolated, place, index, lookup, triode, hard, shaped, process}
use Rattle.clipper.specs.declared.Kind.{Kind}
use Rattle.clipper.specs.declared.Kind.TheVariants.{Hard, Triode}
use Rattle.promises.proofs.Clipper.Bounded.{Most, most-finite, wider, round-most, mul_most, add_most, sub-most, neg-most, fma-most, div_most, between-most}
use Rattle.promises.specs.Clipper.{Between}
use Rattle.promises.proofs.Clipper.Held.{clamp-between}
use Rattle.clipper.proofs.Rule.{within}

finite-is : (x : Float) → T (finite x) → T (not (is_nan x))
unfolding is_nan
finite-is nan h = absurd h
finite-is (inf s) h = absurd h
finite-is (fin s m e) h = tt

-- ---- the product may be infinite, and is no NaN
odd_is : (d : ℕ) (s : Bool) (q k l : ℕ) → T (not (is_nan (odd d s q k l)))
unfolding odd is_nan
odd_is d s zero k l = tt
odd_is d s (suc q) k l = tt

units-is : (f : Format) (s : Bool) (q k : ℕ) → T (not (is_nan (units f s q k)))
unfolding units is_nan
units-is f s q k = go (ltb (q * 2 ^ k) (2 ^ (low f + suc (emax f))))
  where
    go : (t : Bool) → T (not (is_nan (cond t (odd (suc (prec f)) s q k (low f)) (inf s))))
    go true = odd_is (suc (prec f)) s q k (low f)
    go false = tt

round_is : (f : Format) (s : Bool) (a c : ℕ) → T (not (is_nan (round f s a c)))
unfolding round
round_is f s a c = units-is f s _ _

driven-is : (x drive : Float) → T (finite x) → T (finite drive) → T (not (is_nan (mul binary32 x drive)))
unfolding mul
driven-is nan y h k = absurd h
driven-is (inf s) y h k = absurd h
driven-is (fin s m e) nan h k = absurd k
driven-is (fin s m e) (inf t) h k = absurd k
driven-is (fin s m e) (fin t n d) h k = round_is binary32 (unlike s t) (m * up e * (n * up d)) (down e * down d)

-- ---- the curve through four entries
entry-most : (i : ℕ) → i < 256 → Most 0 (entry i)
unfolding neg
entry-most i h = between-most 0 1 0 (entry i) (lit≤ tt) (within i h).0 (within i h).1

module _ (p0 p1 p2 p3 : Float) (h0 : Most 0 p0) (h1 : Most 0 p1) (h2 : Most 0 p2) (h3 : Most 0 p3) where
  pub coeff_a-most : Most 3 (coeff_a p0 p1 p2 p3)
  unfolding coeff_a f32 neg
  coeff_a-most =
      add_most binary32 2 (fma binary32 minus_half p0 (mul binary32 three_halves p1)) (fma binary32 minus_three_halves p2 (mul binary32 half p3)) (lit≤ tt)
      (fma-most binary32 1 0 minus_half p0 (mul binary32 three_halves p1) (lit≤ tt) (lit≤ tt) h0 (mul_most binary32 1 0 three_halves p1 (lit≤ tt) (lit≤ tt) h1))
      (fma-most binary32 1 0 minus_three_halves p2 (mul binary32 half p3) (lit≤ tt) (lit≤ tt) h2 (mul_most binary32 1 0 half p3 (lit≤ tt) (lit≤ tt) h3))

  pub coeff_b-most : Most 4 (coeff_b p0 p1 p2 p3)
  unfolding coeff_b f32 neg
  coeff_b-most =
      add_most binary32 3 (fma binary32 five_halves (neg p1) p0) (fma binary32 two p2 (mul binary32 minus_half p3)) (lit≤ tt)
      (fma-most binary32 2 0 five_halves (neg p1) p0 (lit≤ tt) (lit≤ tt) (neg-most 0 p1 h1) (wider 0 2 p0 (lit≤ tt) h0))
      (fma-most binary32 2 0 two p2 (mul binary32 minus_half p3) (lit≤ tt) (lit≤ tt) h2 (mul_most binary32 2 0 minus_half p3 (lit≤ tt) (lit≤ tt) h3))

  pub coeff_c-most : Most 2 (coeff_c p0 p2)
  unfolding coeff_c f32 neg
  coeff_c-most = fma-most binary32 1 0 minus_half p0 (mul binary32 half p2) (lit≤ tt) (lit≤ tt) h0 (mul_most binary32 1 0 half p2 (lit≤ tt) (lit≤ tt) h2)

  pub interpolated-most : (fraction : Float) → Most 14 fraction → Most 48 (interpolated p0 p1 p2 p3 fraction)
  unfolding interpolated cubic
  interpolated-most fraction h = cubic-most (coeff_a p0 p1 p2 p3) (coeff_b p0 p1 p2 p3) (coeff_c p0 p2) coeff_a-most coeff_b-most coeff_c-most
    where
      cubic-most : (a b c : Float) → Most 3 a → Most 4 b → Most 2 c → Most 48 (cubic a b c p1 fraction)
      cubic-most a b c ha hb hc =
          let first = fma binary32 a fraction b in
          let second = fma binary32 first fraction c in
          let first-most = fma-most binary32 3 14 a fraction b (lit≤ tt) ha h (wider 4 17 b (lit≤ tt) hb) in
          let second-most = fma-most binary32 18 14 first fraction c (lit≤ tt) first-most h (wider 2 32 c (lit≤ tt) hc) in
          fma-most binary32 33 14 second fraction p1 (lit≤ tt) second-most h (wider 0 47 p1 (lit≤ tt) h1)

-- ---- the lookup
width_is : sub binary32 input_max input_min ≡ fin false 5 (pos 2)
unfolding sub f32 neg
width_is = refl

pub place-most : (input : Float) → T (not (is_nan input)) → Most 13 (place input)
unfolding place f32 neg
place-most input is =
    let clamped = clamp input_min input_max input in
    let held = clamp-between input_min input_max (unfold le in tt) (unfold is_nan in tt) (unfold is_nan in tt) input is in
    let raised = sub-most binary32 4 clamped input_min (lit≤ tt) (between-most 4 5 1 clamped (lit≤ tt) held.above held.below) (lit≤ tt) in
    rw width_is (mul_most binary32 5 8 (div binary32 (sub binary32 clamped input_min) (fin false 5 (pos 2))) last (lit≤ tt) (div_most binary32 5 (sub binary32 clamped input_min) 5 2 (lit≤ tt) (lit< tt) raised) (lit≤ tt))

pub index-last : (x : Float) → index x ≤ 254
unfolding index
index-last x = omega arith

whole-most : (i : ℕ) → i ≤ 254 → Most 8 (of_int binary32 (pos i))
unfolding of_int
whole-most i h = round-most binary32 false i 1 8 (lit< tt) (lit≤ tt) (omega arith)

pub lookup-most : (i : ℕ) (fraction : Float) → i ≤ 254 → Most 14 fraction → Most 48 (lookup i fraction)
unfolding lookup
lookup-most i fraction h k =
    interpolated-most (entry (i - 1)) (entry i) (entry (min (i + 1) 255)) (entry (min (i + 2) 255))
    (entry-most (i - 1) (omega arith)) (entry-most i (omega arith)) (entry-most (min (i + 1) 255) (omega arith)) (entry-most (min (i + 2) 255) (omega arith)) fraction k

-- ---- both kinds
to_one : (x : Float) → T (not (is_nan x)) → Between minus_one one (clamp minus_one one x)
unfolding le is_nan neg
to_one x is = clamp-between minus_one one tt tt tt x is

triode-between : (input : Float) → T (not (is_nan input)) → Between minus_one one (triode input)
unfolding triode
triode-between input is =
    let i = index (place input) in
    let fraction = sub binary32 (place input) (of_int binary32 (pos i)) in
    let near = sub-most binary32 13 (place input) (of_int binary32 (pos i)) (lit≤ tt) (place-most input is) (wider 8 13 (of_int binary32 (pos i)) (lit≤ tt) (whole-most i (index-last (place input)))) in
    to_one (lookup i fraction) (finite-is (lookup i fraction) (most-finite 48 (lookup i fraction) (lookup-most i fraction (index-last (place input)) near)))

shaped-between : (kind : Kind) (driven : Float) → T (not (is_nan driven)) → Between minus_one one (shaped kind driven)
unfolding shaped hard
shaped-between Hard driven is = to_one driven is
shaped-between Triode driven is = triode-between driven is

pub process-between : (kind : Kind) (x drive : Float) → T (finite x) → T (finite drive) → Between minus_one one (process kind x drive)
unfolding process
process-between kind x drive h k = shaped-between kind (mul binary32 x drive) (driven-is x drive h k)
