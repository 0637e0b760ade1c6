-- What the tests of the code say of NaN: `is_nan`, and a bit pattern past the infinity's. Once for any format.
-- Assumes nothing.
use mathlib.Core.Path.{◌≡◌, refl, sym, ap, ◌∙◌, subst}
use mathlib.Core.Logic.{◌⊎◌, inl, inr}
use mathlib.Core.Bool.{true, not}
use Prim.Native.Nat.{ℕ, ◌*◌, ◌%◌, ◌<◌, ◌≤◌}
use lib.Dec.{T}
use lib.Ieee.{Float, Format, nan, inf, fin, is_nan, add, of_bits, nan_bits, ones, hid, top}
use lib.Ieee.Bits.{nan_bits_is, nan_bits_above}
use borrow.Author.Tests.{le-ltb, lt-ltb}
use Rattle.rounding.specs.Fma.{product, fma}

-- `is_nan` held
pub of_nan : (x : Float) → is_nan x ≡ true → x ≡ nan
unfolding is_nan
of_nan nan t = refl
of_nan (inf s) t = absurd (subst T (sym t) tt)
of_nan (fin s m e) t = absurd (subst T (sym t) tt)

-- an operand of `fma` is a NaN
pub fma-nan : (f : Format) (x y z : Float) → (x ≡ nan) ⊎ ((y ≡ nan) ⊎ (z ≡ nan)) → fma f x y z ≡ nan
unfolding fma product add
fma-nan f x y z (inl h) = ap (λ (w : Float). fma f w y z) h
fma-nan f x y z (inr (inl h)) = ap (λ (w : Float). fma f x w z) h ∙ second x
  where
    second : (x : Float) → fma f x nan z ≡ nan
    second nan = refl
    second (inf s) = refl
    second (fin s m e) = refl
fma-nan f x y z (inr (inr h)) = ap (λ (w : Float). fma f x y w) h ∙ third (product x y)
  where
    third : (p : Float) → add f p nan ≡ nan
    third nan = refl
    third (inf s) = refl
    third (fin s m e) = refl

-- a pattern past the infinity's, and one up to it
pub above : (f : Format) (n : ℕ) → ones f * hid f < n % top f → of_bits f n ≡ nan
above f n h = of_nan (of_bits f n) (sym (nan_bits_is f n) ∙ nan_bits_above f n ∙ lt-ltb _ _ h)

pub upto : (f : Format) (n : ℕ) → n % top f ≤ ones f * hid f → T (not (nan_bits f n))
upto f n h = rw (nan_bits_above f n, le-ltb (ones f * hid f) (n % top f) h) tt
