-- What a setting may be and what it changes; which settings could have been set or made. Definitions only.
-- Assumes nothing.
use Rattle.std.specs.Prelude.{Bool, true, ◌&&◌, Float}
use Rattle.std.specs.Float.Ieee.{neg}
use Rattle.answer.specs.Figures.{f32, nought, one}
use Rattle.answer.specs.Checks.{in_range, is_rate, is_smoothing}
use Rattle.answer.specs.declared.Decibels.{Decibels}
use Rattle.answer.specs.declared.Factor.{Factor}
use Rattle.answer.specs.declared.Timed.{Timed}
use Rattle.noise_gate_settings.specs.Figures.{longest_hold}
use Rattle.noise_gate_settings.specs.declared.Settings.{Settings}
use Rattle.noise_gate_settings.specs.declared.Setting.{Setting}
use Rattle.noise_gate_settings.specs.declared.Setting.TheVariants.{Threshold, Ratio, Attack, Release, Hold}

-- ---- a setting: its value (3), and its worked number (4)
unfoldable pub in_its_range : Setting → Bool
in_its_range (Threshold d k) = in_range (neg (f32 80 1)) nought d.0
in_its_range (Ratio r) = in_range one (f32 100 1) r
in_its_range (Attack t c) = in_range (f32 1 10) (f32 100 1) t
in_its_range (Release t c) = in_range one (f32 1000 1) t
in_its_range (Hold t) = in_range nought (f32 longest_hold 1) t

unfoldable pub worked : Setting → Bool
worked (Threshold d k) = in_range (f32 1 16384) one k.0
worked (Ratio r) = true
worked (Attack t c) = is_smoothing c
worked (Release t c) = is_smoothing c
worked (Hold t) = true

unfoldable pub allowed : Setting → Bool
allowed t = in_its_range t && worked t

-- ---- what a setting changes: one of these; the rate and the follower's numbers stay
abbrev with : Settings → Decibels → Factor → Float → Timed → Timed → Float → Settings
with s threshold factor ratio attack release hold = record {
  rate = s.rate;
  threshold = threshold;
  factor = factor;
  ratio = ratio;
  attack = attack;
  release = release;
  hold = hold;
  rising = s.rising;
  falling = s.falling;
}

abbrev timed : Float → Float → Timed
timed ms number = record { ms = ms; number = number }

unfoldable pub with_setting : Settings → Setting → Settings
with_setting s (Threshold d k) = with s d k s.ratio s.attack s.release s.hold
with_setting s (Ratio r) = with s s.threshold s.factor r s.attack s.release s.hold
with_setting s (Attack t c) = with s s.threshold s.factor s.ratio (timed t c) s.release s.hold
with_setting s (Release t c) = with s s.threshold s.factor s.ratio s.attack (timed t c) s.hold
with_setting s (Hold t) = with s s.threshold s.factor s.ratio s.attack s.release t

-- ---- settings, rate and worked numbers that could have been set or made
unfoldable pub settable : Settings → Bool
settable s =
    is_rate s.rate
    && (allowed (Threshold s.threshold s.factor)
    && (allowed (Ratio s.ratio)
    && (allowed (Attack s.attack.ms s.attack.number)
    && (allowed (Release s.release.ms s.release.number)
    && (allowed (Hold s.hold)
    && (is_smoothing s.rising && is_smoothing s.falling))))))
