-- States of the equaliser: what 9 accepts, a made one, one at rest, and what a setting leaves. Definitions only.
-- Assumes nothing.
use Rattle.std.specs.Prelude.{ℕ, Bool, cond, get_or, set, replicate, Float}
use Rattle.answer.specs.Figures.{nought, one}
use Rattle.answer.specs.declared.Decibels.{Decibels}
use Rattle.eq_bands.specs.Bands.{settable, taken, clears}
use Rattle.eq_bands.specs.declared.Numbers.{Numbers}
use Rattle.eq_bands.specs.declared.Band.{Band}
use Rattle.eq_bands.specs.declared.Delay.{Delay}
use Rattle.eq_bands.specs.declared.Registers.{Registers}
use Rattle.eq.specs.declared.Equaliser.{Equaliser}

-- settings, rate and worked numbers that could have been set or made; registers may hold any bits
unfoldable pub acceptable : Equaliser → Bool
acceptable e = settable e.settings

abbrev pub no_delay : Delay
no_delay = record { x1 = nought; x2 = nought; y1 = nought; y2 = nought }

abbrev pub at_rest : Registers
at_rest = record { bands = replicate 16 no_delay }

abbrev pub band_with : Float → Band
band_with b0 = record { value = record { 0 = nought }; numbers = record { b0 = b0; b1 = nought; b2 = nought; a1 = nought; a2 = nought } }

-- at rest, b0 in each band, and nought else
abbrev pub flat : Float → Float → Equaliser
flat rate b0 = record { settings = record { rate = rate; bands = replicate 16 (band_with b0) }; registers = at_rest }

-- all bands passthrough at 0 dB
abbrev pub made : Float → Equaliser
made rate = flat rate one

-- what a refused making gives
abbrev pub unmade : Equaliser
unmade = flat nought nought

-- ---- band i; no call asks for one that is not there
unfoldable pub band_at : Equaliser → ℕ → Band
band_at e i = get_or e.settings.bands i (band_with one)

unfoldable pub delay_at : Equaliser → ℕ → Delay
delay_at e i = get_or e.registers.bands i no_delay

unfoldable pub value_at : Equaliser → ℕ → Float
value_at e i = (band_at e i).value.0

-- the equaliser with band i set
unfoldable pub with_band : Equaliser → ℕ → Decibels → Numbers → Equaliser
with_band e i value numbers = record {
  settings = record { rate = e.settings.rate; bands = set e.settings.bands i (taken value numbers) };
  registers = record { bands = set e.registers.bands i (cond (clears (band_at e i).numbers value) no_delay (delay_at e i)) };
}
