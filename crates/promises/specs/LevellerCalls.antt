-- A leveller carried from call to call: the calls that a host can make, the leveller after them, and that their numbers are f32s. Definitions only.
-- Assumes nothing.
use Rattle.std.specs.Prelude.{List, [], ◌∷◌, ℕ, T, Float}
use Rattle.answer.specs.Told.{Told}
use Rattle.leveller_settings.specs.declared.Settings.{Settings}
use Rattle.leveller_settings.specs.declared.Setting.{Setting}
use Rattle.leveller_settings.specs.declared.Setting.TheVariants.{Threshold, Ratio, Attack, Release, Makeup}
use Rattle.leveller.specs.Calls.{set_typed, set, reset, block}
use Rattle.leveller.specs.declared.Leveller.{Leveller}
use Rattle.silence.specs.History.{all_f32}

-- ---- the calls: a block of samples, with what its buffer for the output held; a typed setting; a name with a value and a worked number; a reset. Any of them may be refused
pub data Call : Type 0 where
  Block : List Float → List Float → Call
  SetTyped : Setting → Call
  Set : List ℕ → Float → Float → Call
  Reset : Call

unfoldable pub answered : Leveller → Call → Told Leveller
answered l (Block xs out) = (block l xs out).0
answered l (SetTyped t) = set_typed l t
answered l (Set name v w) = set l name v w
answered l Reset = reset l

-- l after the calls
unfoldable pub carried : Leveller → List Call → Leveller
carried l [] = l
carried l (c ∷ cs) = carried (answered l c).state cs

-- ---- every float of a call is an f32, NaN and the infinities too
abbrev pub floats_of : Call → List Float
floats_of (Block xs out) = xs
floats_of (SetTyped (Threshold d k)) = d.0 ∷ k.0 ∷ []
floats_of (SetTyped (Ratio r)) = r ∷ []
floats_of (SetTyped (Attack t c)) = t ∷ c ∷ []
floats_of (SetTyped (Release t c)) = t ∷ c ∷ []
floats_of (SetTyped (Makeup k)) = k.0 ∷ []
floats_of (Set name v w) = v ∷ w ∷ []
floats_of Reset = []

abbrev pub InF32 : List Call → Type 0
InF32 [] = Unit {0}
InF32 (c ∷ cs) = T (all_f32 (floats_of c)) × InF32 cs

-- every number that a host has set is one
abbrev pub SettingsF32 : Settings → Type 0
SettingsF32 s =
    T
    (all_f32
    (s.rate ∷ s.threshold.0 ∷ s.factor.0 ∷ s.ratio
    ∷ s.attack.ms ∷ s.attack.number ∷ s.release.ms ∷ s.release.number
    ∷ s.makeup.0 ∷ []))
