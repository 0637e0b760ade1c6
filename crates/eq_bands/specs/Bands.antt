-- What a band may hold, what a setting leaves, and which settings could have been set or made. Definitions only.
-- Assumes nothing.
use Rattle.std.specs.Prelude.{Bool, true, ◌&&◌, ◌||◌, cond, List, [], ◌∷◌, eqb}
use Rattle.std.specs.Float.{binary64}
use Rattle.std.specs.Float.Ieee.{eq, lt, neg, to_bits}
use Rattle.std.specs.Float.Ieee.Scale.{finite}
use Rattle.rounding.specs.Casts.{absolute}
use Rattle.answer.specs.Figures.{f32, f64, nought, one}
use Rattle.answer.specs.Checks.{in_range, is_rate}
use Rattle.answer.specs.declared.Decibels.{Decibels}
use Rattle.eq_bands.specs.declared.Numbers.{Numbers}
use Rattle.eq_bands.specs.declared.Band.{Band}
use Rattle.eq_bands.specs.declared.Settings.{Settings}
use Rattle.eq_bands.specs.declared.Setting.{Setting}
use Rattle.eq_bands.specs.declared.Setting.TheVariants as setting

-- ---- a setting: its value (3), and its five numbers (4)
abbrev pub value_of : Setting → Decibels
value_of (setting.Band i value numbers) = value

abbrev pub numbers_of : Setting → Numbers
numbers_of (setting.Band i value numbers) = numbers

unfoldable pub in_its_range : Decibels → Bool
in_its_range value = in_range (neg (f32 12 1)) (f32 12 1) value.0

unfoldable pub worked : Numbers → Bool
worked n = finite n.b0 && (finite n.b1 && (finite n.b2 && (finite n.a1 && finite n.a2)))

-- ---- what a setting leaves
-- the size of the value as f64 is below 1e-6
unfoldable pub is_unity : Decibels → Bool
is_unity value = lt (absolute value.0) (f64 1 1000000)

-- b0 = 1, the others 0
abbrev pub passthrough : Numbers
passthrough = record { b0 = one; b1 = nought; b2 = nought; a1 = nought; a2 = nought }

unfoldable pub taken : Decibels → Numbers → Band
taken value numbers = record { value = value; numbers = cond (is_unity value) passthrough numbers }

-- registers are zeroed by a unity, and where b1 and a1 both equalled 0 before
unfoldable pub clears : Numbers → Decibels → Bool
clears old value = is_unity value || (eq old.b1 nought && eq old.a1 nought)

-- ---- 9: settings, rate and worked numbers that could have been set or made
-- to the bit: no call leaves a -0 in a passthrough
unfoldable pub is_passthrough : Numbers → Bool
is_passthrough n =
    eqb (to_bits binary64 n.b0) (to_bits binary64 one)
    && (eqb (to_bits binary64 n.b1) 0
    && (eqb (to_bits binary64 n.b2) 0
    && (eqb (to_bits binary64 n.a1) 0
    && eqb (to_bits binary64 n.a2) 0)))

unfoldable pub band_settable : Band → Bool
band_settable b = in_its_range b.value && cond (is_unity b.value) (is_passthrough b.numbers) (worked b.numbers)

unfoldable pub all_settable : List Band → Bool
all_settable [] = true
all_settable (b ∷ bs) = band_settable b && all_settable bs

unfoldable pub settable : Settings → Bool
settable s = is_rate s.rate && all_settable s.bands
