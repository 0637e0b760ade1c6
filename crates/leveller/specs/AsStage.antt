-- The leveller as a stage: what its settings leave and its samples, and that its calls are those of any stage.
-- Assumes nothing.
use Rattle.std.specs.Prelude.{◌≡◌, ℕ, List, Float, Option, Some, None, Result, Ok, Err, ⊤, refl}
use Rattle.answer.specs.Checks.{vetted}
use Rattle.answer.specs.Figures.{nought}
use Rattle.answer.specs.Told.{Told, done}
use Rattle.answer.specs.Blocks.{checked_block}
use Rattle.answer.specs.declared.Refusal.{Refusal}
use Rattle.answer.specs.declared.Refusal.TheVariants.{NoSetting}
use Rattle.leveller_settings.specs.Ranges.{in_its_range, worked, with_setting}
use Rattle.leveller_settings.specs.Names.{named, kept}
use Rattle.leveller_settings.specs.declared.Setting.{Setting}
use Rattle.stage.specs.Calls.{told_by, valued, found, checked, setting}
use Rattle.stage.specs.Vetting.{three_four}
use Rattle.leveller.specs.Bounds.{acceptable}
use Rattle.leveller.specs.Calls.{leveller_of, at_rest, after, outputs, set_typed, set_found, set, read_found, read, reset, block}
use Rattle.leveller.specs.declared.Leveller.{Leveller}

abbrev pub vet : Setting → Result ⊤ Refusal
vet t = vetted (in_its_range t) (worked t)

abbrev pub take : Leveller → Setting → Leveller × ⊤
take l t = (leveller_of (with_setting l.settings t) l.registers, tt)

abbrev pub stored_of : Leveller → Option Setting → Result Float Refusal
stored_of l (Some t) = Ok (kept l.settings t)
stored_of l None = Err NoSetting

abbrev pub stored : Leveller → List ℕ → Result Float Refusal
stored l name = stored_of l (named name nought nought)

abbrev pub rest : Leveller → Leveller
rest l = leveller_of l.settings at_rest

abbrev pub run : Leveller → List Float → Told Leveller × List Float
run l xs = (done (leveller_of l.settings (after l.settings l.registers xs)), outputs l.settings l.registers xs)

-- ---- the calls
pub set_typed_is : (l : Leveller) (t : Setting) → set_typed l t ≡ setting acceptable l (λ l _. done l) (vet t) (take l t)
unfolding set_typed
set_typed_is l t = rw (three_four l (in_its_range t) (worked t) (done (take l t).0))

found_is : (l : Leveller) (o : Option Setting) → set_found l o ≡ found l (set_typed l) o
unfolding set_found
found_is l (Some t) = refl
found_is l None = refl

pub set_is : (l : Leveller) (name : List ℕ) (v w : Float) → set l name v w ≡ checked acceptable l (found l (set_typed l) (named name v w))
unfolding set
set_is l name v w = rw (found_is l (named name v w))

read_found_is : (l : Leveller) (o : Option Setting) → read_found l o ≡ told_by valued l (stored_of l o)
unfolding read_found
read_found_is l (Some t) = refl
read_found_is l None = refl

pub read_is : (l : Leveller) (name : List ℕ) → read l name ≡ checked acceptable l (told_by valued l (stored l name))
unfolding read
read_is l name = rw (read_found_is l (named name nought nought))

pub reset_is : (l : Leveller) → reset l ≡ checked acceptable l (done (rest l))
unfolding reset
reset_is l = refl

pub block_is : (l : Leveller) (xs out : List Float) → block l xs out ≡ checked_block l out (run l xs) (acceptable l) xs
unfolding block
block_is l xs out = refl
