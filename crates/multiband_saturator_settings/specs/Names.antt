-- The names of the settings, as bytes: what a name asks for, and what it reads. Definitions only.
-- Assumes nothing.
use Rattle.std.specs.Prelude.{ℕ, List, [], ◌∷◌, Float, Option, Some, None}
use Rattle.answer.specs.Names.{bytes, pick}
use Rattle.multiband_saturator_settings.specs.declared.Crossover.{Crossover}
use Rattle.multiband_saturator_settings.specs.declared.Bands.{Bands}
use Rattle.multiband_saturator_settings.specs.declared.Band.{Band}
use Rattle.multiband_saturator_settings.specs.declared.Band.TheVariants.{Low, Mid, High}
use Rattle.multiband_saturator_settings.specs.declared.Frequency.TheVariants as frequency
use Rattle.multiband_saturator_settings.specs.declared.Settings.{Settings}
use Rattle.multiband_saturator_settings.specs.declared.Setting.{Setting}
use Rattle.multiband_saturator_settings.specs.declared.Setting.TheVariants.{Drive, Level, Freq}

-- the names, each with the setting that it stands for, v being the value and c the worked numbers beside it
abbrev pub names : Float → Crossover → List (List ℕ × Option Setting)
names v c =
    (bytes "low_drive", Some (Drive Low v))
    ∷ (bytes "mid_drive", Some (Drive Mid v))
    ∷ (bytes "high_drive", Some (Drive High v))
    ∷ (bytes "low_level", Some (Level Low v))
    ∷ (bytes "mid_level", Some (Level Mid v))
    ∷ (bytes "high_level", Some (Level High v))
    ∷ (bytes "low_freq", Some (Freq frequency.Low v c))
    ∷ (bytes "high_freq", Some (Freq frequency.High v c))
    ∷ []

unfoldable pub named : List ℕ → Float → Crossover → Option Setting
named name v c = pick name (names v c) None

-- a band's number
unfoldable pub of_band : Bands → Band → Float
of_band n Low = n.low
of_band n Mid = n.mid
of_band n High = n.high

-- the value kept for that setting
unfoldable pub kept : Settings → Setting → Float
kept s (Drive b v) = of_band s.drives b
kept s (Level b v) = of_band s.levels b
kept s (Freq frequency.Low v c) = s.frequencies.low
kept s (Freq frequency.High v c) = s.frequencies.high
