-- The saturator as a stage: what its settings leave and its samples, and that its calls are those of any stage.
-- Assumes nothing.
use Rattle.std.specs.Prelude.{◌≡◌, ℕ, Bool, List, Float, Option, Some, None, Result, Ok, Err, ⊤, refl}
use Rattle.answer.specs.Checks.{vetted}
use Rattle.answer.specs.Figures.{nought}
use Rattle.answer.specs.Told.{Told, done}
use Rattle.answer.specs.Blocks.{checked_block}
use Rattle.answer.specs.declared.Refusal.{Refusal}
use Rattle.answer.specs.declared.Refusal.TheVariants.{NoSetting}
use Rattle.multiband_saturator_settings.specs.Ranges.{in_its_range, worked, with_setting, settable}
use Rattle.multiband_saturator_settings.specs.Names.{named, kept}
use Rattle.multiband_saturator_settings.specs.declared.Setting.{Setting}
use Rattle.multiband_saturator_settings.specs.declared.Crossover.{Crossover}
use Rattle.stage.specs.Calls.{told_by, valued, found, checked, setting}
use Rattle.stage.specs.Vetting.{three_four}
use Rattle.multiband_saturator.specs.Calls.{saturator_of, at_rest, no_crossover, after, outputs, set_typed, set_found, set, read_found, read, reset, block}
use Rattle.multiband_saturator.specs.declared.Saturator.{Saturator}

-- what 9 accepts: registers may hold any bits
abbrev pub acceptable : Saturator → Bool
acceptable s = settable s.settings

abbrev pub vet : Setting → Result ⊤ Refusal
vet t = vetted (in_its_range t) (worked t)

abbrev pub take : Saturator → Setting → Saturator × ⊤
take s t = (saturator_of (with_setting s.settings t) s.registers, tt)

abbrev pub stored_of : Saturator → Option Setting → Result Float Refusal
stored_of s (Some t) = Ok (kept s.settings t)
stored_of s None = Err NoSetting

abbrev pub stored : Saturator → List ℕ → Result Float Refusal
stored s name = stored_of s (named name nought no_crossover)

abbrev pub rest : Saturator → Saturator
rest s = saturator_of s.settings at_rest

abbrev pub run : Saturator → List Float → Told Saturator × List Float
run s xs = (done (saturator_of s.settings (after s.settings s.registers xs)), outputs s.settings s.registers xs)

-- ---- the calls
pub set_typed_is : (s : Saturator) (t : Setting) → set_typed s t ≡ setting acceptable s (λ u _. done u) (vet t) (take s t)
unfolding set_typed
set_typed_is s t = rw (three_four s (in_its_range t) (worked t) (done (take s t).0))

found_is : (s : Saturator) (o : Option Setting) → set_found s o ≡ found s (set_typed s) o
unfolding set_found
found_is s (Some t) = refl
found_is s None = refl

pub set_is : (s : Saturator) (name : List ℕ) (v : Float) (c : Crossover) → set s name v c ≡ checked acceptable s (found s (set_typed s) (named name v c))
unfolding set
set_is s name v c = rw (found_is s (named name v c))

read_found_is : (s : Saturator) (o : Option Setting) → read_found s o ≡ told_by valued s (stored_of s o)
unfolding read_found
read_found_is s (Some t) = refl
read_found_is s None = refl

pub read_is : (s : Saturator) (name : List ℕ) → read s name ≡ checked acceptable s (told_by valued s (stored s name))
unfolding read
read_is s name = rw (read_found_is s (named name nought no_crossover))

pub reset_is : (s : Saturator) → reset s ≡ checked acceptable s (done (rest s))
unfolding reset
reset_is s = refl

pub block_is : (s : Saturator) (xs out : List Float) → block s xs out ≡ checked_block s out (run s xs) (acceptable s) xs
unfolding block
block_is s xs out = refl
