-- The names of the settings, as bytes: what a name asks for, and what it reads. Definitions only.
-- Assumes nothing.
use Rattle.std.specs.Prelude.{ℕ, List, [], ◌∷◌, Float, Option, Some, None}
use Rattle.answer.specs.Names.{bytes, pick}
use Rattle.tonestack_sample.specs.declared.Settings.{Settings}
use Rattle.tonestack_sample.specs.declared.Setting.{Setting}
use Rattle.tonestack_sample.specs.declared.Setting.TheVariants.{Bass, Mid, Treble, Presence}

-- the names, each with the setting that it stands for, v being the value and w the worked number beside it
abbrev pub names : Float → Float → List (List ℕ × Option Setting)
names v w =
    (bytes "bass", Some (Bass v))
    ∷ (bytes "mid", Some (Mid v))
    ∷ (bytes "treble", Some (Treble v))
    ∷ (bytes "presence", Some (Presence v (record { 0 = w })))
    ∷ []

unfoldable pub named : List ℕ → Float → Float → Option Setting
named name v w = pick name (names v w) None

-- the value kept for that setting: the control after its clamp
unfoldable pub kept : Settings → Setting → Float
kept s (Bass v) = s.bass
kept s (Mid v) = s.mid
kept s (Treble v) = s.treble
kept s (Presence v k) = s.presence
