-- What a setting may be and what it changes; which settings could have been set or made. Definitions only.
-- Assumes nothing.
use Rattle.std.specs.Prelude.{Bool, true, ◌&&◌, Float}
use Rattle.std.specs.Float.Ieee.Scale.{finite}
use Rattle.answer.specs.Figures.{f32, nought, one}
use Rattle.answer.specs.Checks.{in_range, is_rate, is_smoothing}
use Rattle.multiband_saturator_settings.specs.declared.Numbers.{Numbers}
use Rattle.multiband_saturator_settings.specs.declared.Crossover.{Crossover}
use Rattle.multiband_saturator_settings.specs.declared.Bands.{Bands}
use Rattle.multiband_saturator_settings.specs.declared.Frequencies.{Frequencies}
use Rattle.multiband_saturator_settings.specs.declared.Band.{Band}
use Rattle.multiband_saturator_settings.specs.declared.Band.TheVariants.{Low, Mid, High}
use Rattle.multiband_saturator_settings.specs.declared.Frequency.{Frequency}
use Rattle.multiband_saturator_settings.specs.declared.Frequency.TheVariants as frequency
use Rattle.multiband_saturator_settings.specs.declared.Settings.{Settings}
use Rattle.multiband_saturator_settings.specs.declared.Setting.{Setting}
use Rattle.multiband_saturator_settings.specs.declared.Setting.TheVariants.{Drive, Level, Freq}

-- ---- a setting: its value (3), and its worked numbers (4)
-- drives 0 to 1, levels 0 to 2
abbrev pub highest_drive : Float
highest_drive = one

abbrev pub highest_level : Float
highest_level = f32 2 1

-- low 50 to 500 Hz, high 1,000 to 6,000 Hz
unfoldable pub is_freq : Frequency → Float → Bool
is_freq frequency.Low v = in_range (f32 50 1) (f32 500 1) v
is_freq frequency.High v = in_range (f32 1000 1) (f32 6000 1) v

unfoldable pub in_its_range : Setting → Bool
in_its_range (Drive b v) = in_range nought highest_drive v
in_its_range (Level b v) = in_range nought highest_level v
in_its_range (Freq f v c) = is_freq f v

unfoldable pub finite_numbers : Numbers → Bool
finite_numbers n = finite n.b0 && (finite n.b1 && (finite n.b2 && (finite n.a1 && finite n.a2)))

-- a frequency carries five finite numbers for low-pass and five for high-pass
unfoldable pub finite_all : Crossover → Bool
finite_all c = finite_numbers c.lowpass && finite_numbers c.highpass

unfoldable pub worked : Setting → Bool
worked (Drive b v) = true
worked (Level b v) = true
worked (Freq f v c) = finite_all c

-- ---- what a setting changes
unfoldable pub with_band : Bands → Band → Float → Bands
with_band n Low v = record { low = v; mid = n.mid; high = n.high }
with_band n Mid v = record { low = n.low; mid = v; high = n.high }
with_band n High v = record { low = n.low; mid = n.mid; high = v }

-- the settings with all that a setting can change; the rate and the numbers that every band shares stay
abbrev pub changed : Settings → Bands → Bands → Frequencies → Crossover → Crossover → Settings
changed s drives levels frequencies low high = record {
  rate = s.rate;
  drives = drives;
  levels = levels;
  frequencies = frequencies;
  low = low;
  high = high;
  attack = s.attack;
  release = s.release;
  blocker = s.blocker;
}

unfoldable pub with_setting : Settings → Setting → Settings
with_setting s (Drive b v) = changed s (with_band s.drives b v) s.levels s.frequencies s.low s.high
with_setting s (Level b v) = changed s s.drives (with_band s.levels b v) s.frequencies s.low s.high
with_setting s (Freq frequency.Low v c) = changed s s.drives s.levels (record { low = v; high = s.frequencies.high }) c s.high
with_setting s (Freq frequency.High v c) = changed s s.drives s.levels (record { low = s.frequencies.low; high = v }) s.low c

-- ---- the numbers that making is lent: twenty for the filters, two for the followers, one for the blockers (4)
unfoldable pub lent : Crossover → Crossover → Float → Float → Float → Bool
lent low high attack release blocker = (finite_all low && finite_all high) && ((is_smoothing attack && is_smoothing release) && is_smoothing blocker)

-- ---- settings, rate and worked numbers that could have been set or made
unfoldable pub each_within : Float → Bands → Bool
each_within highest n = in_range nought highest n.low && (in_range nought highest n.mid && in_range nought highest n.high)

unfoldable pub settable : Settings → Bool
settable s =
    is_rate s.rate
    && ((each_within highest_drive s.drives && each_within highest_level s.levels)
    && ((is_freq frequency.Low s.frequencies.low && is_freq frequency.High s.frequencies.high)
    && lent s.low s.high s.attack s.release s.blocker))
