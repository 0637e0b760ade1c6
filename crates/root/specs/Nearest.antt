-- What the nearest square root promises, for any format f, beyond the equation of the function: `root` is specs/Root.antt's. Statements only.
-- `fits f x` says that f holds x, and `positive x` that x is finite and above zero. Assumes nothing.
use Rattle.std.specs.Prelude.{◌≡◌, ℕ, ◌+◌, ◌*◌, ◌/◌, ◌^◌, ◌<◌, false, T, pos, Float}
use Rattle.std.specs.Float.{nan, inf, fin, Format}
use Rattle.std.specs.Float.Ieee.{low, up, down, fits, eq, lt, le}
use Rattle.std.specs.Float.Ieee.Positive.{positive}
use Rattle.std.specs.Float.Ieee.Scale.{finite}
use Rattle.root.specs.Root.{root}

abbrev pub nought : Float
nought = fin false 0 (pos 0)

abbrev pub one : Float
one = fin false 1 (pos 0)

-- the size of x in units of the smallest value of f, 1 / 2 ^ low: a whole number for each finite value of f, and 2 ^ low for 1.0
unfoldable pub units_of : Format → Float → ℕ
units_of f nan = 0
units_of f (inf s) = 0
units_of f (fin s m e) = m * up e * 2 ^ low f / down e

abbrev pub square : ℕ → ℕ
square n = n * n

-- y is nearer to the root of x than any other finite value z of f.
-- In units, the root of x is the number whose square is units_of f x * 2 ^ low f. It is nearer to y than to z exactly if it lies on y's side of the middle of the two:
-- above the middle for a smaller z, below it for a larger one. Twice the middle is units_of f z + units_of f y, and squares of whole numbers say on which side twice the root lies.
-- Sizes are enough: a z below zero is farther than the value of its size above zero.
pub record NearestTo (f : Format) (x y : Float) : Type 0 where
  pub smaller : (z : Float) → T (fits f z) → T (finite z) → units_of f z < units_of f y → square (units_of f z + units_of f y) < 4 * (units_of f x * 2 ^ low f)
  pub larger : (z : Float) → T (fits f z) → T (finite z) → units_of f y < units_of f z → 4 * (units_of f x * 2 ^ low f) < square (units_of f z + units_of f y)

-- "The root is the nearest f32, stated by squares of whole numbers": it is a value of f, nearer than any other, and the only value of which that can be said.
-- So no root lies in the middle of two values, and no tie is ever broken
pub record Nearest (f : Format) : Type 0 where
  pub held : (x : Float) → T (fits f x) → T (fits f (root f x))
  pub nearest : (x : Float) → T (fits f x) → T (positive x) → NearestTo f x (root f x)
  pub only : (x y : Float) → T (fits f x) → T (positive x) → T (fits f y) → T (positive y) → NearestTo f x y → y ≡ root f x

-- which values it takes
pub record Values (f : Format) : Type 0 where
  -- the root of 1 is 1
  pub of_one : root f one ≡ one
  -- a larger value never has a smaller root
  pub keeps_order : (x y : Float) → T (fits f x) → T (positive x) → T (fits f y) → T (positive y) → T (le x y) → T (le (root f x) (root f y))
  -- from 1 up it lies between 1 and x
  pub from_one : (x : Float) → T (fits f x) → T (positive x) → T (le one x) → T (le one (root f x))
  pub up_to_itself : (x : Float) → T (fits f x) → T (positive x) → T (le one x) → T (le (root f x) x)
  -- what is finite and above zero has a root that is
  pub stays_positive : (x : Float) → T (fits f x) → T (positive x) → T (positive (root f x))
  -- each zero, -0 too, is its own root; what is below zero has none, and a NaN has none
  pub of_zero : (x : Float) → T (eq x nought) → root f x ≡ x
  pub below_zero : (x : Float) → T (lt x nought) → root f x ≡ nan
  pub of_nan : root f nan ≡ nan
