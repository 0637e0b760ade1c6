-- One sample of the gate, each line a phrase of document 01, in its order; last, document 02's W10. Definitions only.
-- Assumes nothing.
use Rattle.std.specs.Prelude.{ℕ, suc, ◌-◌, min, Bool, ◌||◌, cond, ltb, Float}
use Rattle.std.specs.Float.{binary32}
use Rattle.std.specs.Float.Ieee.{lt, mul, sub, div, to_unsigned}
use Rattle.rounding.specs.Fma.{fma}
use Rattle.float.specs.Truncating.{exactness}
use Rattle.float.specs.declared.Truncation.{Truncation}
use Rattle.answer.specs.Figures.{f32, nought, one}
use Rattle.common.specs.Follower.{toward, followed}
use Rattle.noise_gate_sample.specs.Figures.{wide_open, longest_quiet}
use Rattle.noise_gate_settings.specs.declared.Settings.{Settings}
use Rattle.noise_gate_sample.specs.declared.Registers.{Registers}
use Rattle.noise_gate_sample.specs.declared.Stepped.{Stepped}

-- (hold*0.001)*rate, each product rounded
abbrev pub hold_product : Settings → Float
hold_product s = mul binary32 (mul binary32 s.hold (f32 1 1000)) s.rate

-- H: its truncation
unfoldable pub hold_samples : Settings → ℕ
hold_samples s = to_unsigned 64 (hold_product s)

-- H, and the word of the truncation: "exact" or "cut"
unfoldable pub held : Settings → Truncation
held s = record { whole = hold_samples s; word = exactness (hold_product s) }

-- g = 1/ratio and gain = fma(1-g, state, g); else 1
unfoldable pub gain_at : Float → Float → Float
gain_at ratio state =
    let g = div binary32 one ratio in
    cond (lt state wide_open) (fma binary32 (sub binary32 one g) state g) one

module _ (s : Settings) (m : Registers) (x : Float) where
  -- the follower
  unfoldable pub level : Float
  level = followed s.rising s.falling m.level x

  unfoldable pub loud : Bool
  loud = lt s.factor.0 level

  -- loud sets the counter to H, else a counter above 0 drops by one
  unfoldable pub counter : ℕ
  counter = cond loud (hold_samples s) (m.counter - 1)

  unfoldable pub aim : Bool
  aim = loud || ltb 0 counter

  unfoldable pub target : Float
  target = cond aim one nought

  -- if target > state, c = attack, else release; state = fma(c, state, (1-c)*target)
  unfoldable pub state : Float
  state = toward (cond (lt m.state target) s.attack.number s.release.number) m.state target

  unfoldable pub gain : Float
  gain = gain_at s.ratio state

  unfoldable pub output : Float
  output = mul binary32 x gain

  -- "0 after a loud sample", and one more after any other; it "stops at 4,294,967,295"
  unfoldable pub quiet : ℕ
  quiet = cond loud 0 (min (suc m.quiet) longest_quiet)

  unfoldable pub next : Registers
  next = record { level = level; state = state; counter = counter; quiet = quiet }

  unfoldable pub step : Stepped
  step = record { registers = next; output = output; aim = aim }
