-- Settings that 9 accepts are left by some making and eight settings.
-- Assumes nothing.
use mathlib.Core.Path.{◌≡◌, refl, ap, ◌∙◌}
use mathlib.Core.Bool.{true, ◌&&◌}
use mathlib.Core.List.{List, [], ◌∷◌}
use lib.Ieee.{Float}
use Rattle.answer.specs.Figures.{nought}
use Rattle.answer.specs.Checks.{in_range}
use Rattle.answer.specs.Told.{Told, done}
use Rattle.multiband_saturator_settings.specs.Ranges.{highest_drive, highest_level, in_its_range, worked, with_band, with_setting, lent, each_within, settable}
use Rattle.multiband_saturator_settings.specs.declared.Bands.{Bands}
use Rattle.multiband_saturator_settings.specs.declared.Band.TheVariants.{Low, Mid, High}
use Rattle.multiband_saturator_settings.specs.declared.Frequency.TheVariants as frequency
use Rattle.multiband_saturator_settings.specs.declared.Settings.{Settings}
use Rattle.multiband_saturator_settings.specs.declared.Setting.{Setting}
use Rattle.multiband_saturator_settings.specs.declared.Setting.TheVariants.{Drive, Level, Freq}
use Rattle.multiband_saturator.specs.Calls.{saturator_of, made, make, set_typed}
use Rattle.multiband_saturator.specs.declared.Saturator.{Saturator}
use Rattle.promises.specs.Saturator.{set_all, ByCalls}
use Rattle.promises.proofs.Saturator.Settable.{left, right, Parts, parts, made-settable, still-settable}

-- ---- settings, one after the other, each in its range with worked numbers that are taken
abbrev Taken : List Setting → Type 0
Taken [] = Unit {0}
Taken (t ∷ ts) = (in_its_range t ≡ true) × (worked t ≡ true) × Taken ts

abbrev with_all : Settings → List Setting → Settings
with_all s [] = s
with_all s (t ∷ ts) = with_all (with_setting s t) ts

set-done : (s : Saturator) (t : Setting) → settable s.settings ≡ true → in_its_range t ≡ true → worked t ≡ true → set_typed s t ≡ done (saturator_of (with_setting s.settings t) s.registers)
unfolding set_typed
set-done s t h r w = rw (h, r, w)

all_set : (s : Saturator) (ts : List Setting) → settable s.settings ≡ true → Taken ts → (set_all s ts).settings ≡ with_all s.settings ts
all_set s [] h k = refl
all_set s (t ∷ ts) h k =
    ap (λ (r : Told Saturator). (set_all r.state ts).settings) (set-done s t h k.0 k.1)
    ∙ all_set (saturator_of (with_setting s.settings t) s.registers) ts (still-settable s.settings t h k.0 k.1) k.2

-- ---- a band's number, of numbers within
record Each (highest : Float) (n : Bands) : Type 0 where
  low : in_range nought highest n.low ≡ true
  mid : in_range nought highest n.mid ≡ true
  high : in_range nought highest n.high ≡ true

each : (highest : Float) (n : Bands) → each_within highest n ≡ true → Each highest n
unfolding each_within
each highest n h =
    let low = in_range nought highest n.low in
    let mid = in_range nought highest n.mid in
    let high = in_range nought highest n.high in
    let upper = right low (mid && high) h in
    record { low = left low (mid && high) h; mid = left mid high upper; high = right mid high upper }

-- ---- settings that 9 accepts
module _ (s : Settings) (p : Parts s) where
  abbrev sets : List Setting
  sets =
      Drive Low s.drives.low ∷ Drive Mid s.drives.mid ∷ Drive High s.drives.high
      ∷ Level Low s.levels.low ∷ Level Mid s.levels.mid ∷ Level High s.levels.high
      ∷ Freq frequency.Low s.frequencies.low s.low ∷ Freq frequency.High s.frequencies.high s.high ∷ []

  taken : Taken sets
  unfolding in_its_range worked
  taken =
      let drives = each highest_drive s.drives p.drives in
      let levels = each highest_level s.levels p.levels in (
        drives.low,
        refl,
        (
          drives.mid,
          refl,
          (
            drives.high,
            refl,
            (
              levels.low,
              refl,
              (
                levels.mid,
                refl,
                (
                  levels.high,
                  refl,
                  (p.low, p.low-numbers, (p.high, p.high-numbers, tt)),
                ),
              ),
            ),
          ),
        ),
      )

  abbrev first : Saturator
  first = made s.rate s.low s.high s.attack s.release s.blocker

  is-lent : lent s.low s.high s.attack s.release s.blocker ≡ true
  unfolding lent
  is-lent = rw (p.low-numbers, p.high-numbers, p.smoothing)

  made-is : make s.rate s.low s.high s.attack s.release s.blocker ≡ done first
  unfolding make
  made-is = rw (p.rate, is-lent)

  all_back : with_all first.settings sets ≡ s
  unfolding made with_setting with_band
  all_back = refl

  first-settable : settable first.settings ≡ true
  first-settable = made-settable s.rate s.low s.high s.attack s.release s.blocker p.rate is-lent

pub reached : (s : Saturator) → settable s.settings ≡ true → ByCalls s
reached s h =
    let g = s.settings in
    let p = parts g h in
    record {
      rate = g.rate;
      low = g.low;
      high = g.high;
      attack = g.attack;
      release = g.release;
      blocker = g.blocker;
      sets = sets g p;
      made = rw (made-is g p);
      same = rw (made-is g p) (all_set (first g p) (sets g p) (first-settable g p) (taken g p) ∙ all_back g p);
    }
