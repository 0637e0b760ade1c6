-- What the steps of `fma` compute, on plain numbers, for the contracts of its inner functions. A reader of `fma` itself needs none of it. Definitions only.
use Rattle.std.specs.Prelude.{◌≡◌, ◌⊎◌, ℕ, ◌+◌, ◌-◌, ◌*◌, ◌/◌, ◌%◌, ◌^◌, ◌≤◌, ◌<◌, max, not, cond, T, eqb, Float}
use Rattle.std.specs.Float.{Format, binary64}
use Rattle.std.specs.Float.Ieee.{low, hid, ones, top, add, mul, is_nan}
use Rattle.std.specs.Float.Ieee.Nearest.{closest}

-- n stands for a / g to an odd number: it is a / g where that is whole, and otherwise the odd one of the two whole numbers next to it
abbrev pub Sticky : ℕ → ℕ → ℕ → Type 0
Sticky n a g = (n * g ≡ a) ⊎ ((h : ℕ) × (n ≡ 2 * h + 1) × (2 * h * g < a) × (a < (2 * h + 2) * g))

-- a / 2 ^ s to an odd number: cut, and with an odd last digit where something was cut off
unfoldable pub stick : ℕ → ℕ → ℕ
stick a s = cond (eqb (a % 2 ^ s) 0) (a / 2 ^ s) (a / 2 ^ s + (1 - a / 2 ^ s % 2))

-- the significand of a bit pattern b without its sign, h being the weight of the exponent's field
unfoldable pub significand : ℕ → ℕ → ℕ
significand h b = cond (eqb (b / h) 0) (b % h) (h + b % h)

-- a number n of 63 digits, n * 2 ^ e in units of 2 ^ -d of the smallest value, rounded to 63 - spare digits: its bit pattern, which may lie past the infinity's
unfoldable pub pattern : ℕ → ℕ → ℕ → ℕ → ℕ
pattern n e spare d = (e + spare - d) * 2 ^ (62 - spare) + closest n (2 ^ max spare (d - e))

-- the exponent of a product p of two significands, whose exponents add up to k: as small as can be where p is 0
unfoldable pub exponent : ℕ → ℕ → ℕ
exponent p k = cond (eqb p 0) 0 k

-- Three bit patterns: the factors' exponents are those of normal values, the third term's lies 62 or more inside the range, and its last digit g places above the product's last, so that both terms are whole numbers of the product's last place
pub record Near (f : Format) (a b c g : ℕ) : Type 0 where
  pub a_some : 1 ≤ a % top f / hid f
  pub a_most : a % top f / hid f < ones f
  pub b_some : 1 ≤ b % top f / hid f
  pub b_most : b % top f / hid f < ones f
  pub c_some : 62 ≤ c % top f / hid f
  pub c_most : c % top f / hid f + 62 ≤ ones f
  pub apart : c % top f / hid f + (low f + 1) ≡ g + (a % top f / hid f + b % top f / hid f)

-- s is the product and the sum of three `f32`, taken as `f64`, and no NaN
pub record Summed (a b c s : Float) : Type 0 where
  pub number : T (not (is_nan s))
  pub is : s ≡ add binary64 (mul binary64 a b) c
