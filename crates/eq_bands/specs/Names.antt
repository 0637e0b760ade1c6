-- The names of the bands, as bytes: `band_` and then what Rust reads as a usize. Definitions only.
-- Assumes nothing.
use Rattle.std.specs.Prelude.{ℕ, ◌+◌, ◌-◌, ◌*◌, ◌^◌, Bool, true, ◌&&◌, cond, List, [], ◌∷◌, eqb, ltb, leb, length, take, drop, Option, Some, None}
use Rattle.answer.specs.Names.{bytes, same}
use Rattle.answer.specs.declared.Decibels.{Decibels}
use Rattle.eq_bands.specs.declared.Numbers.{Numbers}
use Rattle.eq_bands.specs.declared.Setting.{Setting}
use Rattle.eq_bands.specs.declared.Setting.TheVariants.{Band}

-- '0' to '9'
abbrev pub is_digit : ℕ → Bool
is_digit d = leb 48 d && leb d 57

unfoldable pub all_digits : List ℕ → Bool
all_digits [] = true
all_digits (d ∷ ds) = is_digit d && all_digits ds

-- the number that decimal digits are, behind those that are n
unfoldable pub behind : ℕ → List ℕ → ℕ
behind n [] = n
behind n (d ∷ ds) = behind (n * 10 + (d - 48)) ds

-- one or more digits, leading zeros allowed, at most 2 ^ 64 - 1
unfoldable pub number_of : List ℕ → Option ℕ
number_of ds = cond (ltb 0 (length ds) && (all_digits ds && leb (behind 0 ds) (2 ^ 64 - 1))) (Some (behind 0 ds)) None

-- an optional '+'
unfoldable pub after_plus : List ℕ → List ℕ
after_plus [] = []
after_plus (b ∷ bs) = cond (eqb b 43) bs (b ∷ bs)

unfoldable pub index_of : List ℕ → Option ℕ
index_of name = cond (same (take 5 name) (bytes "band_")) (number_of (after_plus (drop 5 name))) None

-- the setting of that name, with the value and the worked numbers beside it
unfoldable pub setting_at : Option ℕ → Decibels → Numbers → Option Setting
setting_at (Some i) value numbers = Some (Band i value numbers)
setting_at None value numbers = None

unfoldable pub named : List ℕ → Decibels → Numbers → Option Setting
named name value numbers = setting_at (index_of name) value numbers
