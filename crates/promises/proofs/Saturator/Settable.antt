-- Settings that are made, or that could have been set and take a setting in its range with acceptable numbers, could have been set or made.
-- Assumes nothing.
use mathlib.Core.Path.{◌≡◌, refl}
use mathlib.Core.Bool.{Bool, true, false, ◌&&◌}
use lib.Ieee.{Float, le, lt}
use Rattle.answer.specs.Figures.{f32, nought}
use Rattle.answer.specs.Checks.{in_range, is_rate, is_smoothing}
use Rattle.multiband_saturator_settings.specs.Ranges.{highest_drive, highest_level, is_freq, in_its_range, finite_all, worked, with_band, with_setting, lent, each_within, settable}
use Rattle.multiband_saturator_settings.specs.declared.Crossover.{Crossover}
use Rattle.multiband_saturator_settings.specs.declared.Bands.{Bands}
use Rattle.multiband_saturator_settings.specs.declared.Band.{Band}
use Rattle.multiband_saturator_settings.specs.declared.Band.TheVariants.{Low, Mid, High}
use Rattle.multiband_saturator_settings.specs.declared.Frequency.TheVariants as frequency
use Rattle.multiband_saturator_settings.specs.declared.Settings.{Settings}
use Rattle.multiband_saturator_settings.specs.declared.Setting.{Setting}
use Rattle.multiband_saturator_settings.specs.declared.Setting.TheVariants.{Drive, Level, Freq}
use Rattle.multiband_saturator.specs.Calls.{made}

-- ---- what a test of two says of each
pub left : (a b : Bool) → (a && b) ≡ true → a ≡ true
left true b e = refl
left false b e = e

pub right : (a b : Bool) → (a && b) ≡ true → b ≡ true
right true b e = e
right false true e = refl
right false false e = e

pub made-settable : (rate : Float) (low high : Crossover) (attack release blocker : Float) → is_rate rate ≡ true → lent low high attack release blocker ≡ true → settable (made rate low high attack release blocker).settings ≡ true
unfolding made settable each_within is_freq le lt f32
made-settable rate low high attack release blocker h l = rw (h, l)

-- ---- a band's number within, among numbers within
within : (highest : Float) (n : Bands) (b : Band) (v : Float) → each_within highest n ≡ true → in_range nought highest v ≡ true → each_within highest (with_band n b v) ≡ true
unfolding each_within with_band
within highest n Low v h e = rw (e, right (in_range nought highest n.low) (in_range nought highest n.mid && in_range nought highest n.high) h)
within highest n Mid v h e =
    let upper = right (in_range nought highest n.low) (in_range nought highest n.mid && in_range nought highest n.high) h in
    rw (left (in_range nought highest n.low) (in_range nought highest n.mid && in_range nought highest n.high) h, e, right (in_range nought highest n.mid) (in_range nought highest n.high) upper)
within highest n High v h e =
    let upper = right (in_range nought highest n.low) (in_range nought highest n.mid && in_range nought highest n.high) h in
    rw (left (in_range nought highest n.low) (in_range nought highest n.mid && in_range nought highest n.high) h, left (in_range nought highest n.mid) (in_range nought highest n.high) upper, e)

-- ---- the parts of 9's test
pub record Parts (s : Settings) : Type 0 where
  pub rate : is_rate s.rate ≡ true
  pub drives : each_within highest_drive s.drives ≡ true
  pub levels : each_within highest_level s.levels ≡ true
  pub low : is_freq frequency.Low s.frequencies.low ≡ true
  pub high : is_freq frequency.High s.frequencies.high ≡ true
  pub low-numbers : finite_all s.low ≡ true
  pub high-numbers : finite_all s.high ≡ true
  pub smoothing : ((is_smoothing s.attack && is_smoothing s.release) && is_smoothing s.blocker) ≡ true

pub parts : (s : Settings) → settable s ≡ true → Parts s
unfolding settable lent
parts s h =
    let rate = is_rate s.rate in
    let drives = each_within highest_drive s.drives in
    let levels = each_within highest_level s.levels in
    let low = is_freq frequency.Low s.frequencies.low in
    let high = is_freq frequency.High s.frequencies.high in
    let filters = finite_all s.low && finite_all s.high in
    let smoothing = (is_smoothing s.attack && is_smoothing s.release) && is_smoothing s.blocker in
    let rest = (low && high) && (filters && smoothing) in
    let after-rate = right rate ((drives && levels) && rest) h in
    let bands = left (drives && levels) rest after-rate in
    let after-bands = right (drives && levels) rest after-rate in
    let meets = left (low && high) (filters && smoothing) after-bands in
    let numbers = right (low && high) (filters && smoothing) after-bands in
    let finite = left filters smoothing numbers in
    record {
      rate = left rate ((drives && levels) && rest) h;
      drives = left drives levels bands;
      levels = right drives levels bands;
      low = left low high meets;
      high = right low high meets;
      low-numbers = left (finite_all s.low) (finite_all s.high) finite;
      high-numbers = right (finite_all s.low) (finite_all s.high) finite;
      smoothing = right filters smoothing numbers;
    }

whole : (s : Settings) → Parts s → settable s ≡ true
unfolding settable lent
whole s p = rw (p.rate, p.drives, p.levels, p.low, p.high, p.low-numbers, p.high-numbers, p.smoothing)

pub still-settable : (s : Settings) (t : Setting) → settable s ≡ true → in_its_range t ≡ true → worked t ≡ true → settable (with_setting s t) ≡ true
unfolding in_its_range worked with_setting
still-settable s (Drive b v) h r w = let p = parts s h in whole (with_setting s (Drive b v)) (record { rate = p.rate; drives = within highest_drive s.drives b v p.drives r; levels = p.levels; low = p.low; high = p.high; low-numbers = p.low-numbers; high-numbers = p.high-numbers; smoothing = p.smoothing })
still-settable s (Level b v) h r w = let p = parts s h in whole (with_setting s (Level b v)) (record { rate = p.rate; drives = p.drives; levels = within highest_level s.levels b v p.levels r; low = p.low; high = p.high; low-numbers = p.low-numbers; high-numbers = p.high-numbers; smoothing = p.smoothing })
still-settable s (Freq frequency.Low v c) h r w = let p = parts s h in whole (with_setting s (Freq frequency.Low v c)) (record { rate = p.rate; drives = p.drives; levels = p.levels; low = r; high = p.high; low-numbers = w; high-numbers = p.high-numbers; smoothing = p.smoothing })
still-settable s (Freq frequency.High v c) h r w = let p = parts s h in whole (with_setting s (Freq frequency.High v c)) (record { rate = p.rate; drives = p.drives; levels = p.levels; low = p.low; high = r; low-numbers = p.low-numbers; high-numbers = w; smoothing = p.smoothing })
