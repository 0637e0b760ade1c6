-- The saturator's calls: make, set, read, reset, block, with document 01's refusals in its order. Definitions only.
-- Assumes nothing.
use Rattle.std.specs.Prelude.{ℕ, List, Float, Option, Some, None}
use Rattle.answer.specs.Figures.{f32, nought, one}
use Rattle.answer.specs.Checks.{is_rate}
use Rattle.answer.specs.Blocks.{checked_block}
use Rattle.answer.specs.Told.{Told, refused, done, done_with, unless}
use Rattle.answer.specs.declared.Refusal.TheVariants.{NoSetting, OutOfRange, BadWorkedNumber, BadRate, BadState}
use Rattle.fold.specs.Fold.{state_after, out_after}
use Rattle.multiband_saturator_settings.specs.Ranges.{in_its_range, worked, with_setting, lent, settable}
use Rattle.multiband_saturator_settings.specs.Names.{named, kept}
use Rattle.multiband_saturator_settings.specs.declared.Numbers.{Numbers}
use Rattle.multiband_saturator_settings.specs.declared.Crossover.{Crossover}
use Rattle.multiband_saturator_settings.specs.declared.Bands.{Bands}
use Rattle.multiband_saturator_settings.specs.declared.Frequencies.{Frequencies}
use Rattle.multiband_saturator_settings.specs.declared.Settings.{Settings}
use Rattle.multiband_saturator_settings.specs.declared.Setting.{Setting}
use Rattle.multiband_saturator_sample.specs.Step.{output, next}
use Rattle.multiband_saturator_sample.specs.declared.Biquad.{Biquad}
use Rattle.multiband_saturator_sample.specs.declared.Filter.{Filter}
use Rattle.multiband_saturator_sample.specs.declared.Split.{Split}
use Rattle.multiband_saturator_sample.specs.declared.BandRegisters.{BandRegisters}
use Rattle.multiband_saturator_sample.specs.declared.Registers.{Registers}
use Rattle.multiband_saturator.specs.declared.Saturator.{Saturator}

abbrev pub saturator_of : Settings → Registers → Saturator
saturator_of s m = record { settings = s; registers = m }

-- ---- every register 0
abbrev pub biquad_at_rest : Biquad
biquad_at_rest = record { x1 = nought; x2 = nought; y1 = nought; y2 = nought }

abbrev pub filter_at_rest : Filter
filter_at_rest = record { first = biquad_at_rest; second = biquad_at_rest }

abbrev pub split_at_rest : Split
split_at_rest = record { lp = filter_at_rest; hp = filter_at_rest }

abbrev pub band_at_rest : BandRegisters
band_at_rest = record { level = nought; x1 = nought; y1 = nought }

abbrev pub at_rest : Registers
at_rest = record {
  lowmid = split_at_rest;
  midhigh = split_at_rest;
  allpass = split_at_rest;
  low = band_at_rest;
  mid = band_at_rest;
  high = band_at_rest;
}

-- ---- make: 5, 4
abbrev pub every_band : Float → Bands
every_band x = record { low = x; mid = x; high = x }

-- at rest, drives 0, and that level for every band
abbrev pub fresh : Float → Float → Frequencies → Crossover → Crossover → Float → Float → Float → Saturator
fresh rate level frequencies low high attack release blocker =
    saturator_of
    (record {
      rate = rate;
      drives = every_band nought;
      levels = every_band level;
      frequencies = frequencies;
      low = low;
      high = high;
      attack = attack;
      release = release;
      blocker = blocker;
    })
    at_rest

abbrev pub no_numbers : Numbers
no_numbers = record { b0 = nought; b1 = nought; b2 = nought; a1 = nought; a2 = nought }

abbrev pub no_crossover : Crossover
no_crossover = record { lowpass = no_numbers; highpass = no_numbers }

-- what a refused making gives: every number 0
abbrev pub unmade : Saturator
unmade = fresh nought nought (record { low = nought; high = nought }) no_crossover no_crossover nought nought nought

-- drives 0, levels 1, 200 Hz and 2,000 Hz
unfoldable pub made : Float → Crossover → Crossover → Float → Float → Float → Saturator
made rate = fresh rate one (record { low = f32 200 1; high = f32 2000 1 })

unfoldable pub make : Float → Crossover → Crossover → Float → Float → Float → Told Saturator
make rate low high attack release blocker =
    unless (is_rate rate) (refused unmade BadRate)
    (unless (lent low high attack release blocker) (refused unmade BadWorkedNumber)
    (done (made rate low high attack release blocker)))

-- ---- set, typed: 9, 3, 4; and by a name with its numbers: 9, 1, 3, 4. Registers stay
unfoldable pub set_typed : Saturator → Setting → Told Saturator
set_typed s t =
    unless (settable s.settings) (refused s BadState)
    (unless (in_its_range t) (refused s OutOfRange)
    (unless (worked t) (refused s BadWorkedNumber)
    (done (saturator_of (with_setting s.settings t) s.registers))))

unfoldable pub set_found : Saturator → Option Setting → Told Saturator
set_found s (Some t) = set_typed s t
set_found s None = refused s NoSetting

unfoldable pub set : Saturator → List ℕ → Float → Crossover → Told Saturator
set s name v c = unless (settable s.settings) (refused s BadState) (set_found s (named name v c))

-- ---- read: 9, 1. The numbers that stand beside a name when it is set play no part
unfoldable pub read_found : Saturator → Option Setting → Told Saturator
read_found s (Some t) = done_with s 0 (kept s.settings t)
read_found s None = refused s NoSetting

unfoldable pub read : Saturator → List ℕ → Told Saturator
read s name = unless (settable s.settings) (refused s BadState) (read_found s (named name nought no_crossover))

-- ---- reset: 9
unfoldable pub reset : Saturator → Told Saturator
reset s = unless (settable s.settings) (refused s BadState) (done (saturator_of s.settings at_rest))

-- ---- block: 9, 7, 8, 6
module _ (s : Settings) (m : Registers) (xs : List Float) where
  -- one sample after the other: what they leave, and what they give
  abbrev pub after : Registers
  after = state_after (next s) m xs

  abbrev pub outputs : List Float
  outputs = out_after (next s) (output s) m xs

-- what is told, and what the buffer for the output holds afterwards
unfoldable pub block : Saturator → List Float → List Float → Told Saturator × List Float
block s xs out =
    checked_block s out (done (saturator_of s.settings (after s.settings s.registers xs)), outputs s.settings s.registers xs)
    (settable s.settings) xs
