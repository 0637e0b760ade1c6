-- The names of the settings, as bytes: what a name asks for, and what it reads. Definitions only.
-- Assumes nothing.
use Rattle.std.specs.Prelude.{ℕ, List, [], ◌∷◌, Float, Option, Some, None}
use Rattle.answer.specs.Names.{bytes, pick}
use Rattle.noise_gate_settings.specs.declared.Settings.{Settings}
use Rattle.noise_gate_settings.specs.declared.Setting.{Setting}
use Rattle.noise_gate_settings.specs.declared.Setting.TheVariants.{Threshold, Ratio, Attack, Release, Hold}

-- the names, each with the setting that it stands for, v being the value and w the worked number beside it
abbrev pub names : Float → Float → List (List ℕ × Option Setting)
names v w =
    (bytes "threshold", Some (Threshold (record { 0 = v }) (record { 0 = w })))
    ∷ (bytes "ratio", Some (Ratio v))
    ∷ (bytes "attack", Some (Attack v w))
    ∷ (bytes "release", Some (Release v w))
    ∷ (bytes "hold", Some (Hold v))
    ∷ []

unfoldable pub named : List ℕ → Float → Float → Option Setting
named name v w = pick name (names v w) None

-- the value kept for that setting; of the threshold, the dB last set
unfoldable pub kept : Settings → Setting → Float
kept s (Threshold d k) = s.threshold.0
kept s (Ratio r) = s.ratio
kept s (Attack t c) = s.attack.ms
kept s (Release t c) = s.release.ms
kept s (Hold t) = s.hold
