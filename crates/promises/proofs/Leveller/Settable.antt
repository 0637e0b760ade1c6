-- The settings and the level that 9 accepts, of f32s: making gives them and every setting keeps them. What holds of their numbers.
-- Assumes nothing.
use mathlib.Core.Bool.{true}
use lib.Dec.{T}
use lib.Ieee.{Float, binary32, lt, le, eq, fits, neg}
use lib.Ieee.Fits.{and_i, and_l, and_r}
use Rattle.rounding.proofs.Smoothing.{sixty-four, In}
use Rattle.answer.specs.Figures.{f32, nought, one}
use Rattle.answer.specs.Checks.{in_range, is_rate, is_smoothing}
use Rattle.leveller_settings.specs.Ranges.{is_ratio, in_its_range, worked, allowed, with_setting, settable}
use Rattle.leveller_settings.specs.declared.Settings.{Settings}
use Rattle.leveller_settings.specs.declared.Setting.{Setting}
use Rattle.leveller_settings.specs.declared.Setting.TheVariants.{Threshold, Ratio, Attack, Release, Makeup}
use Rattle.leveller_sample.specs.declared.Registers.{Registers}
use Rattle.leveller.specs.Bounds.{in_bounds, acceptable}
use Rattle.leveller.specs.Calls.{at_rest, made_settings}
use Rattle.leveller.specs.declared.Leveller.{Leveller}
use Rattle.silence.specs.History.{all_f32}
use Rattle.silence.proofs.Accepted.{F32, only, second}
use Rattle.promises.specs.LevellerCalls.{SetTyped, floats_of, SettingsF32}
use Rattle.rounding.proofs.Scaled.{threshold as lowest, four}

-- a setting that is allowed, of f32s
abbrev pub Allowed : Setting → Type 0
Allowed t = T (allowed t) × T (all_f32 (floats_of (SetTyped t)))

-- ---- the settings
pub record Settable (s : Settings) : Type 0 where
  pub rate : T (is_rate s.rate) × F32 s.rate
  pub threshold : Allowed (Threshold s.threshold s.factor)
  pub ratio : Allowed (Ratio s.ratio)
  pub attack : Allowed (Attack s.attack.ms s.attack.number)
  pub release : Allowed (Release s.release.ms s.release.number)
  pub makeup : Allowed (Makeup s.makeup)

pub settable-is : (s : Settings) → Settable s → T (settable s)
unfolding settable
settable-is s a = search and_i depth 9

pub is-settable : (s : Settings) → T (settable s) → SettingsF32 s → Settable s
unfolding settable
is-settable s t f = search (and_i, and_l, and_r) depth 13

pub made-settable : (rate rising falling : Float) → T (is_rate rate) × F32 rate → T (is_smoothing rising) × F32 rising → T (is_smoothing falling) × F32 falling
    → Settable (made_settings rate rising falling)
unfolding made_settings allowed in_its_range is_ratio worked f32 fits le lt eq neg
made-settable rate rising falling r p q = record {
  rate = r;
  threshold = (tt, tt);
  ratio = (tt, tt);
  attack = (p.0, and_i (fits binary32 rising) true p.1 tt);
  release = (q.0, and_i (fits binary32 falling) true q.1 tt);
  makeup = (tt, tt);
}

pub set-settable : (s : Settings) (t : Setting) → Settable s → Allowed t → Settable (with_setting s t)
unfolding with_setting
set-settable s (Threshold d k) a w = search
set-settable s (Ratio r) a w = search
set-settable s (Attack t c) a w = search
set-settable s (Release t c) a w = search
set-settable s (Makeup k) a w = search

-- ---- their numbers
module _ (s : Settings) (a : Settable s) where
  pub attack-number : T (is_smoothing s.attack.number) × F32 s.attack.number
  unfolding allowed worked
  attack-number = (and_r (in_its_range (Attack s.attack.ms s.attack.number)) (is_smoothing s.attack.number) a.attack.0, second s.attack.ms s.attack.number a.attack.1)

  pub release-number : T (is_smoothing s.release.number) × F32 s.release.number
  unfolding allowed worked
  release-number = (and_r (in_its_range (Release s.release.ms s.release.number)) (is_smoothing s.release.number) a.release.0, second s.release.ms s.release.number a.release.1)

  pub factor-f32 : F32 s.factor.0
  factor-f32 = second s.threshold.0 s.factor.0 a.threshold.1

  factor-range : T (in_range lowest one s.factor.0)
  unfolding allowed worked f32
  factor-range = and_r (in_its_range (Threshold s.threshold s.factor)) (in_range lowest one s.factor.0) a.threshold.0

  pub factor-above : T (le lowest s.factor.0)
  factor-above = and_l (le lowest s.factor.0) (le s.factor.0 one) factor-range

  pub factor-below : T (le s.factor.0 one)
  factor-below = and_r (le lowest s.factor.0) (le s.factor.0 one) factor-range

  pub makeup-in : In binary32 four s.makeup.0
  unfolding allowed in_its_range worked f32
  makeup-in =
      let t : T (in_range nought four s.makeup.0) = and_l (in_range nought four s.makeup.0) true a.makeup.0 in
      record { fit = only s.makeup.0 a.makeup.1; above = and_l (le nought s.makeup.0) (le s.makeup.0 four) t; below = and_r (le nought s.makeup.0) (le s.makeup.0 four) t }

-- ---- the level
pub bounded-is : (m : Registers) → In binary32 sixty-four m.level → T (in_bounds m)
unfolding in_bounds f32
bounded-is m i = and_i (le nought m.level) (le m.level sixty-four) i.above i.below

pub is-bounded : (m : Registers) → T (in_bounds m) → F32 m.level → In binary32 sixty-four m.level
unfolding in_bounds f32
is-bounded m t f = record { fit = f; above = and_l (le nought m.level) (le m.level sixty-four) t; below = and_r (le nought m.level) (le m.level sixty-four) t }

pub rest-bounded : In binary32 sixty-four at_rest.level
unfolding fits le
rest-bounded = record { fit = tt; above = tt; below = tt }

-- ---- the leveller
pub accepts : (l : Leveller) → Settable l.settings → In binary32 sixty-four l.registers.level → T (acceptable l)
unfolding acceptable
accepts l a b = and_i (settable l.settings) (in_bounds l.registers) (settable-is l.settings a) (bounded-is l.registers b)
