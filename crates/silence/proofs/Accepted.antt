-- The settings and the registers that 9 accepts, of f32s: making gives them and every setting keeps them. What holds of their numbers.
-- Assumes nothing.
use mathlib.Core.Bool.{true, false, ◌&&◌}
use mathlib.Core.List.{[], ◌∷◌}
use Prim.Native.Nat.{◌≤◌}
use native.Mathlib.Omega.{arith}
use lib.Dec.{T, leb, le→leb, leb→le}
use lib.Ieee.{Float, nan, inf, fin, binary32, lt, le, fits, neg, whole}
use lib.Ieee.Positive.{positive, between}
use lib.Ieee.Fits.{and_i, and_l, and_r}
use Rattle.rounding.proofs.Smoothing.{sixty-four, In, lt→le, zero-le-absolute}
use Rattle.answer.specs.Figures.{f32, nought, one, lowest_rate, highest_rate, largest_sample}
use Rattle.answer.specs.Checks.{in_range, is_rate, is_smoothing}
use Rattle.noise_gate_settings.specs.Figures.{longest_hold}
use Rattle.noise_gate.specs.Figures.{longest_count}
use Rattle.noise_gate_sample.specs.Step.{hold_samples}
use Rattle.noise_gate_settings.specs.Ranges.{in_its_range, worked, allowed, with_setting, settable}
use Rattle.noise_gate.specs.Bounds.{in_bounds, acceptable}
use Rattle.noise_gate.specs.Calls.{at_rest, made_settings}
use Rattle.silence.specs.History.{SetTyped, all_f32, floats_of, SettingsF32}
use Rattle.noise_gate_settings.specs.declared.Settings.{Settings}
use Rattle.noise_gate_sample.specs.declared.Registers.{Registers}
use Rattle.noise_gate.specs.declared.Gate.{Gate}
use Rattle.noise_gate_settings.specs.declared.Setting.{Setting}
use Rattle.noise_gate_settings.specs.declared.Setting.TheVariants.{Threshold, Ratio, Attack, Release, Hold}
use Rattle.silence.proofs.Hold.{hold-samples-most}

abbrev pub F32 : Float → Type 0
F32 x = T (fits binary32 x)

-- a setting that is allowed, of f32s
abbrev pub Allowed : Setting → Type 0
Allowed t = T (allowed t) × T (all_f32 (floats_of (SetTyped t)))

-- ---- the settings
pub record Settable (s : Settings) : Type 0 where
  pub rate : T (is_rate s.rate) × F32 s.rate
  pub threshold : Allowed (Threshold s.threshold s.factor)
  pub ratio : Allowed (Ratio s.ratio)
  pub attack : Allowed (Attack s.attack.ms s.attack.number)
  pub release : Allowed (Release s.release.ms s.release.number)
  pub hold : Allowed (Hold s.hold)
  pub rising : T (is_smoothing s.rising) × F32 s.rising
  pub falling : T (is_smoothing s.falling) × F32 s.falling

settable-is : (s : Settings) → Settable s → T (settable s)
unfolding settable
settable-is s a = search and_i depth 9

pub is-settable : (s : Settings) → T (settable s) → SettingsF32 s → Settable s
unfolding settable
is-settable s t f = search (and_i, and_l, and_r) depth 13

pub made-settable : (rate rising falling : Float) → T (is_rate rate) × F32 rate → T (is_smoothing rising) × F32 rising → T (is_smoothing falling) × F32 falling
    → Settable (made_settings rate rising falling)
unfolding made_settings allowed in_its_range worked is_smoothing f32 fits le lt neg
made-settable rate rising falling r p q = record { rate = r; threshold = (tt, tt); ratio = (tt, tt); attack = (tt, tt); release = (tt, tt); hold = (tt, tt); rising = p; falling = q }

pub set-settable : (s : Settings) (t : Setting) → Settable s → Allowed t → Settable (with_setting s t)
unfolding with_setting
set-settable s (Threshold d k) a w = search
set-settable s (Ratio r) a w = search
set-settable s (Attack t c) a w = search
set-settable s (Release t c) a w = search
set-settable s (Hold t) a w = search

-- ---- their numbers
pub only : (x : Float) → T (all_f32 (x ∷ [])) → F32 x
only x t = and_l (fits binary32 x) true t

pub second : (x y : Float) → T (all_f32 (x ∷ y ∷ [])) → F32 y
second x y t = only y (and_r (fits binary32 x) (all_f32 (y ∷ [])) t)

pub record Smoothing (c : Float) : Type 0 where
  pub inside : In binary32 one c
  pub less : T (lt c one)

smoothing : (c : Float) → F32 c → T (is_smoothing c) → Smoothing c
unfolding is_smoothing
smoothing c f t =
    let l : T (lt c one) = and_r (le nought c) (lt c one) t in
    record { inside = record { fit = f; above = and_l (le nought c) (lt c one) t; below = lt→le c one l }; less = l }

positive-above : (x : Float) → T (positive x) → T (le nought x)
positive-above nan p = absurd p
positive-above (inf s) p = absurd p
positive-above (fin false m e) p = zero-le-absolute m e
positive-above (fin true m e) p = absurd p

module _ (s : Settings) (a : Settable s) where
  pub attack-number : Smoothing s.attack.number
  unfolding allowed worked
  attack-number = smoothing s.attack.number (second s.attack.ms s.attack.number a.attack.1) (and_r (in_its_range (Attack s.attack.ms s.attack.number)) (is_smoothing s.attack.number) a.attack.0)

  pub release-number : Smoothing s.release.number
  unfolding allowed worked
  release-number = smoothing s.release.number (second s.release.ms s.release.number a.release.1) (and_r (in_its_range (Release s.release.ms s.release.number)) (is_smoothing s.release.number) a.release.0)

  ratio-range : T (in_range one (f32 100 1) s.ratio)
  unfolding allowed in_its_range worked
  ratio-range = and_l (in_range one (f32 100 1) s.ratio) true a.ratio.0

  pub ratio-f32 : F32 s.ratio
  ratio-f32 = only s.ratio a.ratio.1

  pub ratio-above : T (le one s.ratio)
  ratio-above = and_l (le one s.ratio) (le s.ratio (f32 100 1)) ratio-range

  pub ratio-below : T (le s.ratio (f32 100 1))
  ratio-below = and_r (le one s.ratio) (le s.ratio (f32 100 1)) ratio-range

  hold-in : In binary32 (f32 longest_hold 1) s.hold
  unfolding allowed in_its_range worked
  hold-in =
      let t : T (in_range nought (f32 longest_hold 1) s.hold) = and_l (in_range nought (f32 longest_hold 1) s.hold) true a.hold.0 in
      record { fit = only s.hold a.hold.1; above = and_l (le nought s.hold) (le s.hold (f32 longest_hold 1)) t; below = and_r (le nought s.hold) (le s.hold (f32 longest_hold 1)) t }

  rate-in : In binary32 (f32 highest_rate 1) s.rate
  unfolding is_rate
  rate-in =
      let t : T (in_range (f32 lowest_rate 1) (f32 highest_rate 1) s.rate) = and_r (whole binary32 s.rate) (in_range (f32 lowest_rate 1) (f32 highest_rate 1) s.rate) a.rate.0 in
      let l = and_l (le (f32 lowest_rate 1) s.rate) (le s.rate (f32 highest_rate 1)) t in
      let h = and_r (le (f32 lowest_rate 1) s.rate) (le s.rate (f32 highest_rate 1)) t in
      record { fit = a.rate.1; above = positive-above s.rate (between (f32 lowest_rate 1) s.rate (f32 highest_rate 1) (unfold f32 in tt) (unfold f32 in tt) l h); below = h }

  pub hold-most : hold_samples s ≤ longest_count
  hold-most = hold-samples-most s hold-in rate-in

-- ---- the registers
pub record Bounded (m : Registers) : Type 0 where
  pub level : In binary32 sixty-four m.level
  pub state : In binary32 one m.state
  pub counter : m.counter ≤ longest_count

bounded-is : (m : Registers) → Bounded m → T (in_bounds m)
unfolding in_bounds f32
bounded-is m b =
    let n = le→leb m.counter longest_count b.counter in
    search (and_i, b.level.above, b.level.below, b.state.above, b.state.below, n) depth 9

pub is-bounded : (m : Registers) → T (in_bounds m) → T (all_f32 (m.level ∷ m.state ∷ [])) → Bounded m
unfolding in_bounds f32
is-bounded m t f =
    let level = in_range nought (f32 largest_sample 1) m.level in
    let state = in_range nought one m.state in
    let counter = leb m.counter longest_count in
    let rest = and_r level (state && counter) t in
    record {
      level = record {
        fit = and_l (fits binary32 m.level) (all_f32 (m.state ∷ [])) f;
        above = and_l (le nought m.level) (le m.level (f32 largest_sample 1)) (and_l level (state && counter) t);
        below = and_r (le nought m.level) (le m.level (f32 largest_sample 1)) (and_l level (state && counter) t);
      };
      state = record {
        fit = second m.level m.state f;
        above = and_l (le nought m.state) (le m.state one) (and_l state counter rest);
        below = and_r (le nought m.state) (le m.state one) (and_l state counter rest);
      };
      counter = leb→le m.counter longest_count (and_r state counter rest);
    }

pub rest-bounded : Bounded at_rest
unfolding fits le
rest-bounded = record { level = record { fit = tt; above = tt; below = tt }; state = record { fit = tt; above = tt; below = tt }; counter = omega arith }

-- ---- the gate
pub accepts : (g : Gate) → Settable g.settings → Bounded g.registers → T (acceptable g)
unfolding acceptable
accepts g a b = and_i (settable g.settings) (in_bounds g.registers) (settable-is g.settings a) (bounded-is g.registers b)

-- H is at most 96,000 in every gate that 9 accepts
pub accepted-hold : (g : Gate) → T (acceptable g) → SettingsF32 g.settings → hold_samples g.settings ≤ longest_count
unfolding acceptable
accepted-hold g t f = hold-most g.settings (is-settable g.settings (and_l (settable g.settings) (in_bounds g.registers) t) f)
