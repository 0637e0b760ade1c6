-- A gate carried from call to call: the calls that a host can make, the gate after them, and the samples of a block as the gate took them. Definitions only.
-- Assumes nothing.
use Rattle.std.specs.Prelude.{Bool, true, ◌&&◌, List, [], ◌∷◌, ℕ, T, Float}
use Rattle.std.specs.Float.{binary32}
use Rattle.std.specs.Float.Ieee.{fits}
use Rattle.answer.specs.Told.{Told}
use Rattle.noise_gate_sample.specs.Step.{hold_samples, level, aim, state, gain, output, next}
use Rattle.noise_gate.specs.Calls.{set_typed, set, reset, block}
use Rattle.noise_gate_settings.specs.declared.Settings.{Settings}
use Rattle.noise_gate_sample.specs.declared.Registers.{Registers}
use Rattle.noise_gate.specs.declared.Gate.{Gate}
use Rattle.noise_gate_settings.specs.declared.Setting.{Setting}
use Rattle.noise_gate_settings.specs.declared.Setting.TheVariants.{Threshold, Ratio, Attack, Release, Hold}

-- ---- the calls: a block of samples, with what its buffer for the output held; a typed setting; a name with a value and a worked number; a reset. Any of them may be refused
pub data Call : Type 0 where
  Block : List Float → List Float → Call
  SetTyped : Setting → Call
  Set : List ℕ → Float → Float → Call
  Reset : Call

unfoldable pub answered : Gate → Call → Told Gate
answered g (Block xs out) = (block g xs out).0
answered g (SetTyped t) = set_typed g t
answered g (Set name v w) = set g name v w
answered g Reset = reset g

-- g after the calls
unfoldable pub carried : Gate → List Call → Gate
carried g [] = g
carried g (c ∷ cs) = carried (answered g c).state cs

-- ---- a sample: the level and the state after it, the state before it, the threshold's factor and the hold in samples then in force, how the gate aims at it, its gain, and its output
pub record Sample : Type 0 where
  pub input : Float
  pub level : Float
  pub factor : Float
  pub hold : ℕ
  pub aim : Bool
  pub before : Float
  pub state : Float
  pub gain : Float
  pub output : Float

unfoldable pub sample : Settings → Registers → Float → Sample
sample s m x = record {
  input = x;
  level = level s m x;
  factor = s.factor.0;
  hold = hold_samples s;
  aim = aim s m x;
  before = m.state;
  state = state s m x;
  gain = gain s m x;
  output = output s m x;
}

-- those of a block, the latest first, on top of those before it
unfoldable pub heard : Settings → Registers → List Float → List Sample → List Sample
heard s m [] past = past
heard s m (x ∷ xs) past = heard s (next s m x) xs (sample s m x ∷ past)

-- ---- every float of a call is an f32: any value that binary32 holds, NaN and the infinities too
abbrev pub all_f32 : List Float → Bool
all_f32 [] = true
all_f32 (x ∷ xs) = fits binary32 x && all_f32 xs

abbrev pub floats_of : Call → List Float
floats_of (Block xs out) = xs
floats_of (SetTyped (Threshold d k)) = d.0 ∷ k.0 ∷ []
floats_of (SetTyped (Ratio r)) = r ∷ []
floats_of (SetTyped (Attack t c)) = t ∷ c ∷ []
floats_of (SetTyped (Release t c)) = t ∷ c ∷ []
floats_of (SetTyped (Hold t)) = t ∷ []
floats_of (Set name v w) = v ∷ w ∷ []
floats_of Reset = []

abbrev pub InF32 : List Call → Type 0
InF32 [] = Unit {0}
InF32 (c ∷ cs) = T (all_f32 (floats_of c)) × InF32 cs

-- every number that a host has set is one
abbrev pub SettingsF32 : Settings → Type 0
SettingsF32 s =
    T
    (all_f32
    (s.rate ∷ s.threshold.0 ∷ s.factor.0 ∷ s.ratio
    ∷ s.attack.ms ∷ s.attack.number ∷ s.release.ms ∷ s.release.number
    ∷ s.hold ∷ s.rising ∷ s.falling ∷ []))
