-- One sample of the saturator, each line a step of the Rust, in its order and its words. Definitions only.
-- Assumes nothing.
use Rattle.std.specs.Prelude.{Float}
use Rattle.std.specs.Float.{binary32}
use Rattle.std.specs.Float.Ieee.{add, mul}
use Rattle.multiband_saturator_settings.specs.declared.Bands.{Bands}
use Rattle.multiband_saturator_settings.specs.declared.Settings.{Settings}
use Rattle.multiband_saturator_sample.specs.Filters.{split, given}
use Rattle.multiband_saturator_sample.specs.Bands.{passed}
use Rattle.multiband_saturator_sample.specs.declared.Split.{Split}
use Rattle.multiband_saturator_sample.specs.declared.BandRegisters.{BandRegisters}
use Rattle.multiband_saturator_sample.specs.declared.Registers.{Registers}

-- (low_clean*low_level + mid_clean*mid_level) + high_clean*high_level, nothing fused
unfoldable pub mixed : Bands → Float → Float → Float → Float
mixed levels low_clean mid_clean high_clean =
    add binary32 (add binary32 (mul binary32 low_clean levels.low) (mul binary32 mid_clean levels.mid)) (mul binary32 high_clean levels.high)

module _ (s : Settings) (m : Registers) (x : Float) where
  -- "First split: low vs high_side at low_freq"
  unfoldable pub lowmid : Split
  lowmid = split s.low m.lowmid x

  abbrev pub low_raw : Float
  low_raw = given lowmid.lp

  abbrev pub high_side : Float
  high_side = given lowmid.hp

  -- "Second split: mid vs high from high_side at high_freq"
  unfoldable pub midhigh : Split
  midhigh = split s.high m.midhigh high_side

  abbrev pub mid : Float
  mid = given midhigh.lp

  abbrev pub high : Float
  high = given midhigh.hp

  -- "Allpass phase compensation for low band (LP + HP at high_freq = allpass)"
  unfoldable pub allpass : Split
  allpass = split s.high m.allpass low_raw

  abbrev pub low : Float
  low = add binary32 (given allpass.lp) (given allpass.hp)

  -- the three bands, each with its envelope and its DC blocker, whose y1 is the Rust's low_clean, mid_clean, high_clean
  unfoldable pub low_band : BandRegisters
  low_band = passed s.attack s.release s.blocker s.drives.low m.low low

  unfoldable pub mid_band : BandRegisters
  mid_band = passed s.attack s.release s.blocker s.drives.mid m.mid mid

  unfoldable pub high_band : BandRegisters
  high_band = passed s.attack s.release s.blocker s.drives.high m.high high

  unfoldable pub output : Float
  output = mixed s.levels low_band.y1 mid_band.y1 high_band.y1

  unfoldable pub next : Registers
  next = record { lowmid = lowmid; midhigh = midhigh; allpass = allpass; low = low_band; mid = mid_band; high = high_band }
