-- The tone stack as a stage: what its settings leave and its samples, and that its calls are those of any stage.
-- Assumes nothing.
use Rattle.std.specs.Prelude.{◌≡◌, ℕ, List, Float, Option, Some, None, Result, Ok, Err, ⊤, refl}
use Rattle.answer.specs.Checks.{vetted}
use Rattle.answer.specs.Figures.{nought}
use Rattle.answer.specs.Told.{Told, done}
use Rattle.answer.specs.Blocks.{checked_block}
use Rattle.answer.specs.declared.Refusal.{Refusal}
use Rattle.answer.specs.declared.Refusal.TheVariants.{NoSetting}
use Rattle.tonestack_sample.specs.Ranges.{is_number, worked, with_setting}
use Rattle.tonestack_sample.specs.Names.{named, kept}
use Rattle.tonestack_sample.specs.declared.Setting.{Setting}
use Rattle.stage.specs.Calls.{told_by, valued, found, checked, setting}
use Rattle.stage.specs.Vetting.{three_four}
use Rattle.tonestack.specs.Calls.{acceptable, tone_of, at_rest, after, outputs, set_typed, set_found, set, read_found, read, reset, block}
use Rattle.tonestack.specs.declared.Tone.{Tone}

abbrev pub vet : Setting → Result ⊤ Refusal
vet v = vetted (is_number v) (worked v)

abbrev pub take : Tone → Setting → Tone × ⊤
take t v = (tone_of (with_setting t.settings v) t.registers, tt)

abbrev pub stored_of : Tone → Option Setting → Result Float Refusal
stored_of t (Some v) = Ok (kept t.settings v)
stored_of t None = Err NoSetting

abbrev pub stored : Tone → List ℕ → Result Float Refusal
stored t name = stored_of t (named name nought nought)

abbrev pub rest : Tone → Tone
rest t = tone_of t.settings at_rest

abbrev pub run : Tone → List Float → Told Tone × List Float
run t xs = (done (tone_of t.settings (after t.settings t.registers xs)), outputs t.settings t.registers xs)

-- ---- the calls
pub set_typed_is : (t : Tone) (v : Setting) → set_typed t v ≡ setting acceptable t (λ u _. done u) (vet v) (take t v)
unfolding set_typed
set_typed_is t v = rw (three_four t (is_number v) (worked v) (done (take t v).0))

found_is : (t : Tone) (o : Option Setting) → set_found t o ≡ found t (set_typed t) o
unfolding set_found
found_is t (Some v) = refl
found_is t None = refl

pub set_is : (t : Tone) (name : List ℕ) (v w : Float) → set t name v w ≡ checked acceptable t (found t (set_typed t) (named name v w))
unfolding set
set_is t name v w = rw (found_is t (named name v w))

read_found_is : (t : Tone) (o : Option Setting) → read_found t o ≡ told_by valued t (stored_of t o)
unfolding read_found
read_found_is t (Some v) = refl
read_found_is t None = refl

pub read_is : (t : Tone) (name : List ℕ) → read t name ≡ checked acceptable t (told_by valued t (stored t name))
unfolding read
read_is t name = rw (read_found_is t (named name nought nought))

pub reset_is : (t : Tone) → reset t ≡ checked acceptable t (done (rest t))
unfolding reset
reset_is t = refl

pub block_is : (t : Tone) (xs out : List Float) → block t xs out ≡ checked_block t out (run t xs) (acceptable t) xs
unfolding block
block_is t xs out = refl
