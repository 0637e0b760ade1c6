-- What every stage checks: a rate, a worked number, a value, a block. Definitions only.
-- Assumes nothing.
use Rattle.std.specs.Prelude.{ℕ, zero, suc, Bool, not, ◌&&◌, ◌||◌, cond, List, [], ◌∷◌, eqb, leb, length, Float, Result, Ok, Err, ⊤}
use Rattle.std.specs.Float.{binary32}
use Rattle.std.specs.Float.Ieee.{lt, le, whole}
use Rattle.std.specs.Float.Ieee.Scale.{finite}
use Rattle.rounding.specs.Casts.{absolute}
use Rattle.answer.specs.Figures.{f32, nought, one, lowest_rate, highest_rate, largest_sample, longest_block}
use Rattle.answer.specs.Told.{unless}
use Rattle.answer.specs.declared.Refusal.{Refusal}
use Rattle.answer.specs.declared.Refusal.TheVariants.{OutOfRange, BadWorkedNumber, BadSample, LengthsDiffer, TooLong, BadState}

-- from lowest to highest, by IEEE comparison: a NaN is in no range, and -0 is wherever 0 is
abbrev pub in_range : Float → Float → Float → Bool
in_range lowest highest x = le lowest x && le x highest

-- a whole number from 8,000 to 192,000; what `whole` leaves out, -0 and numbers past 2 ^ 24, the range does too
unfoldable pub is_rate : Float → Bool
is_rate rate = whole binary32 rate && in_range (f32 lowest_rate 1) (f32 highest_rate 1) rate

-- a worked number c: from 0 up to but excluding 1
unfoldable pub is_smoothing : Float → Bool
is_smoothing c = le nought c && lt c one

-- a state that is accepted or not: 9
abbrev pub nine : Bool → Result ⊤ Refusal
nine accepted = unless accepted (Err BadState) (Ok tt)

-- a setting whose value is in its range or not, and whose worked number is acceptable or not: 3, 4
abbrev pub vetted : Bool → Bool → Result ⊤ Refusal
vetted ranged worked = unless ranged (Err OutOfRange) (unless worked (Err BadWorkedNumber) (Ok tt))

-- a sample that is NaN, infinite or larger in size than 64
unfoldable pub is_refused : Float → Bool
is_refused x = not (finite x) || lt (f32 largest_sample 1) (absolute x)

-- the place of the first sample that is refused, and the length where there is none
unfoldable pub first_refused : List Float → ℕ
first_refused [] = zero
first_refused (x ∷ xs) = cond (is_refused x) zero (suc (first_refused xs))

-- a block's samples, and how many places its output has: 7, 8, 6
unfoldable pub check_block : List Float → ℕ → Result ⊤ Refusal
check_block samples places =
    unless (eqb (length samples) places) (Err LengthsDiffer)
    (unless (leb (length samples) longest_block) (Err TooLong)
    (unless (leb (length samples) (first_refused samples)) (Err (BadSample (first_refused samples)))
    (Ok tt)))
