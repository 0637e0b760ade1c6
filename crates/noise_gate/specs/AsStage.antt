-- The gate as a stage: what its settings leave and say and its samples, and that its calls are those of any stage.
-- Assumes nothing.
use Rattle.std.specs.Prelude.{◌≡◌, ℕ, List, Float, Option, Some, None, Result, Ok, Err, ⊤, refl}
use Rattle.answer.specs.Checks.{vetted}
use Rattle.answer.specs.Figures.{nought}
use Rattle.answer.specs.Told.{Told, done, done_hold}
use Rattle.answer.specs.Blocks.{checked_block}
use Rattle.answer.specs.declared.Refusal.{Refusal}
use Rattle.answer.specs.declared.Refusal.TheVariants.{NoSetting}
use Rattle.float.specs.declared.Truncation.{Truncation}
use Rattle.noise_gate_sample.specs.Step.{held}
use Rattle.noise_gate_settings.specs.Ranges.{in_its_range, worked, with_setting}
use Rattle.noise_gate_settings.specs.Names.{named, kept}
use Rattle.noise_gate_settings.specs.declared.Settings.{Settings}
use Rattle.noise_gate_settings.specs.declared.Setting.{Setting}
use Rattle.noise_gate_settings.specs.declared.Setting.TheVariants.{Threshold, Ratio, Attack, Release, Hold}
use Rattle.stage.specs.Calls.{told_by, valued, found, checked, setting}
use Rattle.stage.specs.Vetting.{three_four}
use Rattle.noise_gate.specs.Answers.{says}
use Rattle.noise_gate.specs.Bounds.{acceptable}
use Rattle.noise_gate.specs.Calls.{gate_of, at_rest, hold_told, ran, set_typed, set_found, set, read_found, read, reset, block}
use Rattle.noise_gate.specs.declared.Gate.{Gate}

abbrev pub vet : Setting → Result ⊤ Refusal
vet t = vetted (in_its_range t) (worked t)

-- what a done setting says of the settings s that it leaves
abbrev pub said : Settings → Setting → Option Truncation
said s (Threshold d k) = None
said s (Ratio r) = None
said s (Attack t c) = None
said s (Release t c) = None
said s (Hold t) = Some (held s)

abbrev pub take : Gate → Setting → Gate × Option Truncation
take g t = let s = with_setting g.settings t in (gate_of s g.registers, said s t)

abbrev pub stored_of : Gate → Option Setting → Result Float Refusal
stored_of g (Some t) = Ok (kept g.settings t)
stored_of g None = Err NoSetting

abbrev pub stored : Gate → List ℕ → Result Float Refusal
stored g name = stored_of g (named name nought nought)

abbrev pub rest : Gate → Gate
rest g = gate_of g.settings at_rest

abbrev pub run : Gate → List Float → Told Gate × List Float
run g xs = ran g.settings g.registers xs

-- ---- the calls
said_is : (g : Gate) (s : Settings) (t : Setting) → done_hold g (hold_told s t).0 (hold_told s t).1 ≡ says g (said s t)
said_is g s (Threshold d k) = refl
said_is g s (Ratio r) = refl
said_is g s (Attack t c) = refl
said_is g s (Release t c) = refl
said_is g s (Hold t) = refl

pub set_typed_is : (g : Gate) (t : Setting) → set_typed g t ≡ setting acceptable g says (vet t) (take g t)
unfolding set_typed
set_typed_is g t = rw (said_is (take g t).0 (with_setting g.settings t) t, three_four g (in_its_range t) (worked t) (says (take g t).0 (take g t).1))

found_is : (g : Gate) (o : Option Setting) → set_found g o ≡ found g (set_typed g) o
unfolding set_found
found_is g (Some t) = refl
found_is g None = refl

pub set_is : (g : Gate) (name : List ℕ) (v w : Float) → set g name v w ≡ checked acceptable g (found g (set_typed g) (named name v w))
unfolding set
set_is g name v w = rw (found_is g (named name v w))

read_found_is : (g : Gate) (o : Option Setting) → read_found g o ≡ told_by valued g (stored_of g o)
unfolding read_found
read_found_is g (Some t) = refl
read_found_is g None = refl

pub read_is : (g : Gate) (name : List ℕ) → read g name ≡ checked acceptable g (told_by valued g (stored g name))
unfolding read
read_is g name = rw (read_found_is g (named name nought nought))

pub reset_is : (g : Gate) → reset g ≡ checked acceptable g (done (rest g))
unfolding reset
reset_is g = refl

pub block_is : (g : Gate) (xs out : List Float) → block g xs out ≡ checked_block g out (run g xs) (acceptable g) xs
unfolding block
block_is g xs out = refl
