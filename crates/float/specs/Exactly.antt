-- What the words exact and cut promise, document 02's W9: exact is what is whole, from 0 to below 2 ^ 64, and cut is what has "a fraction, a negative, a NaN or an excess". Statements only.
-- `itself n` is the number n, and numbers are compared by their exact values. Assumes nothing.
use Rattle.std.specs.Prelude.{◌≡◌, ℕ, suc, ◌^◌, ◌<◌, Bool, T, ◌≢◌, Float}
use Rattle.std.specs.Float.{nan, inf}
use Rattle.std.specs.Float.Ieee.{eq, lt, le, to_unsigned}
use Rattle.float.specs.Truncating.{itself, exactness, number}
use Rattle.float.specs.declared.Exactness.{Exactness}
use Rattle.float.specs.declared.Exactness.TheVariants.{Exact, Cut}

-- what equals a whole number below 2 ^ 64 is exact, -0 too, and that number is given back; and exact says no less than that the number given back equals the number taken
pub record Exactly : Type 0 where
  pub whole : (x : Float) (n : ℕ) → T (eq (itself n) x) → n < 2 ^ 64 → (to_unsigned 64 x ≡ n) × (exactness x ≡ Exact)
  pub only : (x : Float) → exactness x ≡ Exact → T (eq (itself (to_unsigned 64 x)) x)

-- whatever was thrown away, the word is cut
pub record ThrownAway : Type 0 where
  pub fraction : (x : Float) (n : ℕ) → T (lt (itself n) x) → T (lt x (itself (suc n))) → exactness x ≡ Cut
  pub negative : (x : Float) → T (lt x (itself 0)) → exactness x ≡ Cut
  pub of_nan : exactness nan ≡ Cut
  pub infinite : (s : Bool) → exactness (inf s) ≡ Cut
  pub excess : (x : Float) → T (le (itself (2 ^ 64)) x) → exactness x ≡ Cut

-- no two words have one number, and none has 0, which is no word
pub record Words : Type 0 where
  pub apart : (v w : Exactness) → number v ≡ number w → v ≡ w
  pub never_nought : (w : Exactness) → number w ≢ 0
