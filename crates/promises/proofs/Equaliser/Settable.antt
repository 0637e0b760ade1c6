-- 9 accepts what making leaves, and what a setting of one band leaves of settings that it accepts.
-- Assumes nothing.
use mathlib.Core.Path.{◌≡◌, refl, sym}
use mathlib.Core.Bool.{Bool, true, false, ◌&&◌, true≢false}
use mathlib.Core.List.{List, [], ◌∷◌}
use Prim.Native.Nat.{ℕ, zero, suc}
use lib.Ieee.{Float, le, lt, neg, to_bits}
use lib.ListN.{set}
use Rattle.rounding.specs.Casts.{absolute}
use Rattle.answer.specs.Figures.{f32, f64}
use Rattle.answer.specs.Checks.{is_rate}
use Rattle.answer.specs.declared.Decibels.{Decibels}
use Rattle.eq_bands.specs.Bands.{in_its_range, worked, is_unity, passthrough, taken, is_passthrough, band_settable, all_settable, settable}
use Rattle.eq_bands.specs.declared.Numbers.{Numbers}
use Rattle.eq_bands.specs.declared.Band.{Band}
use Rattle.eq.specs.States.{acceptable, made, with_band}
use Rattle.eq.specs.declared.Equaliser.{Equaliser}

pub made-accepted : (rate : Float) → is_rate rate ≡ true → acceptable (made rate) ≡ true
unfolding acceptable settable all_settable band_settable in_its_range is_unity is_passthrough absolute to_bits neg f32 f64 le lt
made-accepted rate r = rw r

-- ---- a band that was set by a value in its range with five finite numbers
passes : is_passthrough passthrough ≡ true
unfolding is_passthrough to_bits
passes = refl

taken-settable : (value : Decibels) (numbers : Numbers) → in_its_range value ≡ true → worked numbers ≡ true → band_settable (taken value numbers) ≡ true
unfolding taken band_settable
taken-settable value numbers r w = go (is_unity value) refl
  where
    go : (u : Bool) → is_unity value ≡ u → band_settable (taken value numbers) ≡ true
    go true e = rw (r, e) passes
    go false e = rw (r, e) w

-- ---- among the others
pub both_true : (a b : Bool) → (a && b) ≡ true → (a ≡ true) × (b ≡ true)
both_true true b h = (refl, h)
both_true false b h = absurd (true≢false (sym h))

set-settable : (bs : List Band) (i : ℕ) (b : Band) → all_settable bs ≡ true → band_settable b ≡ true → all_settable (set bs i b) ≡ true
unfolding all_settable
set-settable [] i b h k = refl
set-settable (c ∷ bs) zero b h k = rw k (both_true (band_settable c) (all_settable bs) h).1
set-settable (c ∷ bs) (suc i) b h k =
    let p = both_true (band_settable c) (all_settable bs) h in
    rw p.0 (set-settable bs i b p.1 k)

pub set-accepted : (e : Equaliser) (i : ℕ) (value : Decibels) (numbers : Numbers) → acceptable e ≡ true → in_its_range value ≡ true → worked numbers ≡ true → acceptable (with_band e i value numbers) ≡ true
unfolding acceptable settable with_band
set-accepted e i value numbers a r w =
    let p = both_true (is_rate e.settings.rate) (all_settable e.settings.bands) a in
    rw p.0 (set-settable e.settings.bands i (taken value numbers) p.1 (taken-settable value numbers r w))
