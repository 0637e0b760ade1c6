-- The square root, once for every format, by squares of whole numbers and one rounding: IEEE 754's squareRoot. Definitions only.
-- Assumes nothing.
use Rattle.std.specs.Prelude.{ℕ, zero, suc, ◌+◌, ◌*◌, ◌/◌, ◌^◌, true, false, cond, nat_le, Float}
use Rattle.std.specs.Float.{nan, inf, fin, Format}
use Rattle.std.specs.Float.Ieee.{low, up, down, size, round}

-- The largest whole number whose square is at most n, for an n of at most d digits to the base 4, as roots are taken on paper:
-- twice that number for n without its last digit, or one more where the square of one more is at most n.
unfoldable pub digits : ℕ → ℕ → ℕ
digits zero n = 0
digits (suc d) n = let r = 2 * digits d (n / 4) in cond (nat_le ((r + 1) * (r + 1)) n) (r + 1) r

-- the whole part of the root of n: the largest r with r * r ≤ n, so that n < (r + 1) * (r + 1)
unfoldable pub whole_root : ℕ → ℕ
unfolding digits
whole_root n = digits (size n) n

-- The value of the format f nearest to the root of a / c, which is above zero and held by f.
-- Count in half units, a unit being the smallest value of f, 1 / 2 ^ low: then each value of f is a whole number, and so is each middle of two neighbours. r is the whole part of the root so counted.
-- No value and no middle lies between r and r + 1, so r + 1/2 rounds to the value that the root is nearest to. A root that is r itself is a value of f and no middle: so few digits have a root of half as many.
-- That this is the nearest, by squares alone, is promised in specs/Nearest.antt.
unfoldable pub rooted : Format → ℕ → ℕ → Float
unfolding whole_root round
rooted f a c =
    let r = whole_root (a * 4 ^ suc (low f) / c) in
    round f false (2 * r + 1) (2 ^ (2 + low f))

-- IEEE 754's squareRoot: a zero is its own root, with its sign, and so is infinity; below zero, and of a NaN, there is none
unfoldable pub root : Format → Float → Float
unfolding rooted
root f nan = nan
root f (inf true) = nan
root f (inf false) = inf false
root f (fin s zero e) = fin s zero e
root f (fin true (suc m) e) = nan
root f (fin false (suc m) e) = rooted f (suc m * up e) (down e)
