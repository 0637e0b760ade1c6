-- Every rate that is accepted here is one that the stages accept, as an f32 that is exactly it.
-- Assumes nothing.
use Prim.Native.Nat.{ℕ, ◌^◌, ◌≤◌}
use native.Mathlib.Nat.{le_trans}
use native.Mathlib.Omega.{arith}
use mathlib.Core.Path.{◌≡◌, refl}
use mathlib.Core.Bool.{Bool, true, false}
use lib.Dec.{T, le→leb, lit≤}
use lib.IntN.{pos}
use lib.Ieee.{Float, nan, inf, fin, binary32, Format, le, whole, of_int, in_float, in_unsigned, to_unsigned}
use lib.Ieee.Exact.{HasValue}
use lib.Ieee.Fits.{and_l, and_i}
use lib.Ieee.Back.{round_whole, unsigned_back}
use lib.Ieee.Order.{le_of_values}
use Rattle.answer.specs.Checks as Checks
use Rattle.answer.specs.Figures.{f32, lowest_rate, highest_rate}
use Rattle.wave.specs.Reading.{is_rate}
use Rattle.wave.proofs.Inside.{between}

holds : (t : Bool) → T t → t ≡ true
holds true h = refl
holds false h = absurd h

counted : (f : Format) (w : ℕ) (x : Float) → T (in_unsigned f w x) → T (whole f x)
unfolding in_unsigned whole
counted f w nan h = h
counted f w (inf s) h = h
counted f w (fin s m e) h = and_l (whole f (fin s m e)) _ h

module _ (rate : ℕ) (accepted : is_rate rate ≡ true) where
  ranged : (lowest_rate ≤ rate) × (rate ≤ highest_rate)
  ranged = between rate accepted

  exact : HasValue (of_int binary32 (pos rate)) false rate 1
  unfolding of_int
  exact = round_whole binary32 false rate (le_trans ranged.1 (lit≤ tt))

  back : T (in_unsigned binary32 32 (of_int binary32 (pos rate))) × (to_unsigned 32 (of_int binary32 (pos rate)) ≡ rate)
  unfolding in_float
  back = unsigned_back binary32 32 rate (le→leb rate (2 ^ 24) (le_trans ranged.1 (lit≤ tt))) (omega (arith, ranged.1))

  pub stages-accept : Checks.is_rate (of_int binary32 (pos rate)) ≡ true
  unfolding Checks.is_rate f32
  stages-accept =
      let x = of_int binary32 (pos rate) in
      let low : T (le (f32 8000 1) x) = le_of_values (f32 8000 1) x 8000 1 rate 1 (omega arith) (omega arith) (refl, refl) exact (omega (arith, ranged.0)) in
      let high : T (le x (f32 192000 1)) = le_of_values x (f32 192000 1) rate 1 192000 1 (omega arith) (omega arith) exact (refl, refl) (omega (arith, ranged.1)) in
      holds _ (and_i (whole binary32 x) _ (counted binary32 32 x back.0) (and_i (le (f32 8000 1) x) _ low high))

  -- and it comes back as it was
  pub comes_back : to_unsigned 32 (of_int binary32 (pos rate)) ≡ rate
  comes_back = back.1
