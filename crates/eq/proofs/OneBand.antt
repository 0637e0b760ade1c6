-- A band of sixteen: what lies at its index is the same whatever is said of an index past the end, and registers that are not cleared stay.
-- Assumes nothing.
use Rattle.std.proofs.Common.{◌≡◌, ℕ, ◌<◌, zero, suc, true, false, List, [], ◌∷◌, length, get_or, set, refl}
use Rattle.std.proofs.lemmas.List.{set-get_or}
use native.Mathlib.Nat.{le_of_suc-le-suc, not-suc-le-zero}
use Rattle.answer.specs.Figures.{one}
use Rattle.answer.specs.declared.Decibels.{Decibels}
use Rattle.eq_bands.specs.Bands.{taken, clears}
use Rattle.eq_bands.specs.declared.Band.{Band}
use Rattle.eq_bands.specs.declared.Delay.{Delay}
use Rattle.eq_bands.specs.declared.Numbers.{Numbers}
use Rattle.eq.specs.declared.Equaliser.{Equaliser}
use Rattle.eq.specs.States.{no_delay, band_with, band_at, delay_at, with_band}

there : {X : Type 0} (l : List X) (i : ℕ) (d e : X) → i < length l → get_or l i d ≡ get_or l i e
there [] i d e h = absurd (not-suc-le-zero h)
there (x ∷ l) zero d e h = refl
there (x ∷ l) (suc i) d e h = there l i d e (le_of_suc-le-suc h)

-- the equaliser that a setting leaves, its registers as they are or cleared
module _ (e : Equaliser) (i : ℕ) (value : Decibels) (numbers : Numbers) (b : Band) (h : i < length e.settings.bands) where
  abbrev with : List Delay → Equaliser
  with ds = record { settings = record { rate = e.settings.rate; bands = set e.settings.bands i (taken value numbers) }; registers = record { bands = ds } }

  pub cleared : clears (get_or e.settings.bands i b).numbers value ≡ true → with (set e.registers.bands i no_delay) ≡ with_band e i value numbers
  unfolding with_band band_at
  cleared c = rw (there e.settings.bands i (band_with one) b h, c)

  pub kept : clears (get_or e.settings.bands i b).numbers value ≡ false → with e.registers.bands ≡ with_band e i value numbers
  unfolding with_band band_at delay_at
  kept c = rw (there e.settings.bands i (band_with one) b h, c, set-get_or)
