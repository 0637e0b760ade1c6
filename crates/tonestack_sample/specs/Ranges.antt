-- What a setting may be and what it changes; which settings could have been set or made. Definitions only.
-- Assumes nothing.
use Rattle.std.specs.Prelude.{Bool, true, ◌&&◌, cond, leb, Float}
use Rattle.std.specs.Float.Ieee.{eq, lt}
use Rattle.answer.specs.Figures.{f32, nought}
use Rattle.answer.specs.Checks.{in_range, is_rate}
use Rattle.answer.specs.declared.Factor.{Factor}
use Rattle.tonestack_sample.specs.Models.{last_model}
use Rattle.tonestack_sample.specs.declared.Settings.{Settings}
use Rattle.tonestack_sample.specs.declared.Setting.{Setting}
use Rattle.tonestack_sample.specs.declared.Setting.TheVariants.{Bass, Mid, Treble, Presence}

-- the highest value of a control
abbrev pub highest_control : Float
highest_control = f32 2 1

-- ---- a setting: its value (3), and its worked number (4)
unfoldable pub value : Setting → Float
value (Bass v) = v
value (Mid v) = v
value (Treble v) = v
value (Presence v k) = v

-- every number is taken, infinities too: NaN alone does not equal itself
unfoldable pub is_number : Setting → Bool
is_number t = eq (value t) (value t)

-- presence's factor, 0.5 to 2
unfoldable pub is_factor : Factor → Bool
is_factor k = in_range (f32 1 2) (f32 2 1) k.0

unfoldable pub worked : Setting → Bool
worked (Bass v) = true
worked (Mid v) = true
worked (Treble v) = true
worked (Presence v k) = is_factor k

-- ---- what a setting changes: the control is clamped to 0 to 2
unfoldable pub clamped : Float → Float
clamped v = cond (lt v nought) nought (cond (lt highest_control v) highest_control v)

-- the same rate and model, with these controls and presence's factor
abbrev pub with_controls : Settings → Float → Float → Float → Float → Factor → Settings
with_controls s bass mid treble presence factor = record {
  rate = s.rate;
  model = s.model;
  bass = bass;
  mid = mid;
  treble = treble;
  presence = presence;
  factor = factor;
}

unfoldable pub with_setting : Settings → Setting → Settings
with_setting s (Bass v) = with_controls s (clamped v) s.mid s.treble s.presence s.factor
with_setting s (Mid v) = with_controls s s.bass (clamped v) s.treble s.presence s.factor
with_setting s (Treble v) = with_controls s s.bass s.mid (clamped v) s.presence s.factor
with_setting s (Presence v k) = with_controls s s.bass s.mid s.treble (clamped v) k

-- ---- settings, rate and worked number that could have been set or made
unfoldable pub is_control : Float → Bool
is_control v = in_range nought highest_control v

unfoldable pub settable : Settings → Bool
settable s =
    is_rate s.rate
    && (leb s.model last_model
    && (is_control s.bass
    && (is_control s.mid
    && (is_control s.treble
    && (is_control s.presence
    && is_factor s.factor)))))
