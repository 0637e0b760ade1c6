-- A rule of a table of floats, every entry in a range and none above the next, as one computed test that is carried to each place.
-- Assumes nothing.
use mathlib.Core.Bool.{Bool, true, ◌&&◌}
use mathlib.Core.List.{List, [], ◌∷◌}
use Prim.Native.Nat.{ℕ, zero, suc, ◌<◌}
use native.Mathlib.Nat.{le_of_suc-le-suc, not-suc-le-zero}
use lib.Dec.{T}
use lib.ListN.{length, get_or}
use lib.Ieee.{Float, le}
use lib.Ieee.Fits.{and_l, and_r}

module _ (lowest highest d : Float) where
  abbrev pub inside : List Float → Bool
  inside [] = true
  inside (x ∷ xs) = le lowest x && (le x highest && inside xs)

  pub inside-at : (xs : List Float) → T (inside xs) → (i : ℕ) → i < length xs → T (le lowest (get_or xs i d)) × T (le (get_or xs i d) highest)
  inside-at [] t i h = absurd (not-suc-le-zero h)
  inside-at (x ∷ xs) t zero h = (and_l (le lowest x) (le x highest && inside xs) t, and_l (le x highest) (inside xs) (and_r (le lowest x) (le x highest && inside xs) t))
  inside-at (x ∷ xs) t (suc i) h = inside-at xs (and_r (le x highest) (inside xs) (and_r (le lowest x) (le x highest && inside xs) t)) i (le_of_suc-le-suc h)

abbrev pub rising : List Float → Bool
rising [] = true
rising (x ∷ []) = true
rising (x ∷ y ∷ xs) = le x y && rising (y ∷ xs)

pub rising-at : (d : Float) (xs : List Float) → T (rising xs) → (i : ℕ) → suc i < length xs → T (le (get_or xs i d) (get_or xs (suc i) d))
rising-at d [] t i h = absurd (not-suc-le-zero h)
rising-at d (x ∷ []) t i h = absurd (not-suc-le-zero (le_of_suc-le-suc h))
rising-at d (x ∷ y ∷ xs) t zero h = and_l (le x y) (rising (y ∷ xs)) t
rising-at d (x ∷ y ∷ xs) t (suc i) h = rising-at d (y ∷ xs) (and_r (le x y) (rising (y ∷ xs)) t) i (le_of_suc-le-suc h)
