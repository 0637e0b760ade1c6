-- The equaliser as a stage: what its settings leave and its samples, and that its calls are those of any stage.
-- Assumes nothing.
use Rattle.std.specs.Prelude.{◌≡◌, ℕ, Bool, true, false, ltb, List, Float, Option, Some, None, Result, Ok, Err, ⊤, refl}
use Rattle.answer.specs.Checks.{vetted}
use Rattle.answer.specs.Told.{Told, refused, done, unless}
use Rattle.answer.specs.Blocks.{checked_block}
use Rattle.answer.specs.declared.Decibels.{Decibels}
use Rattle.answer.specs.declared.Refusal.{Refusal}
use Rattle.answer.specs.declared.Refusal.TheVariants.{NoSetting, NoBand}
use Rattle.eq_bands.specs.Bands.{in_its_range, worked}
use Rattle.eq_bands.specs.Names.{index_of, named}
use Rattle.eq_bands.specs.declared.Numbers.{Numbers}
use Rattle.eq_bands.specs.declared.Setting.{Setting}
use Rattle.eq_bands.specs.declared.Setting.TheVariants.{Band}
use Rattle.stage.specs.Calls.{told_by, valued, found, checked, setting}
use Rattle.stage.specs.Vetting.{three_four}
use Rattle.eq.specs.States.{acceptable, at_rest, with_band, value_at}
use Rattle.eq.specs.Calls.{equaliser_of, ran_on, outputs, set_band, set_found, set, read_found, read, reset, block}
use Rattle.eq.specs.declared.Equaliser.{Equaliser}

abbrev pub set_typed : Equaliser → Setting → Told Equaliser
set_typed e (Band i value numbers) = set_band e i value numbers

abbrev pub vet : Setting → Result ⊤ Refusal
vet (Band i value numbers) = unless (ltb i 16) (Err NoBand) (vetted (in_its_range value) (worked numbers))

abbrev pub take : Equaliser → Setting → Equaliser × ⊤
take e (Band i value numbers) = (with_band e i value numbers, tt)

abbrev pub stored_of : Equaliser → Option ℕ → Result Float Refusal
stored_of e (Some i) = unless (ltb i 16) (Err NoBand) (Ok (value_at e i))
stored_of e None = Err NoSetting

abbrev pub stored : Equaliser → List ℕ → Result Float Refusal
stored e name = stored_of e (index_of name)

abbrev pub rest : Equaliser → Equaliser
rest e = equaliser_of e.settings at_rest

abbrev pub run : Equaliser → List Float → Told Equaliser × List Float
run e xs = (done (ran_on e xs), outputs e.settings e.registers xs)

-- ---- the calls
two_three_four : (e : Equaliser) (there ranged worked : Bool) (t : Told Equaliser)
    → unless there (refused e NoBand) (told_by {A = ⊤} (λ _ _. t) e (vetted ranged worked)) ≡ told_by {A = ⊤} (λ _ _. t) e (unless there (Err NoBand) (vetted ranged worked))
two_three_four e true ranged worked t = refl
two_three_four e false ranged worked t = refl

pub set_typed_is : (e : Equaliser) (t : Setting) → set_typed e t ≡ setting acceptable e (λ e _. done e) (vet t) (take e t)
unfolding set_band
set_typed_is e (Band i value numbers) = let t = done (with_band e i value numbers) in rw (three_four e (in_its_range value) (worked numbers) t, two_three_four e (ltb i 16) (in_its_range value) (worked numbers) t)

found_is : (e : Equaliser) (o : Option Setting) → set_found e o ≡ found e (set_typed e) o
unfolding set_found
found_is e (Some (Band i value numbers)) = refl
found_is e None = refl

pub set_is : (e : Equaliser) (name : List ℕ) (value : Decibels) (numbers : Numbers) → set e name value numbers ≡ checked acceptable e (found e (set_typed e) (named name value numbers))
unfolding set
set_is e name value numbers = rw (found_is e (named name value numbers))

there_is : (e : Equaliser) (i : ℕ) (there : Bool) → unless there (refused e NoBand) (valued e (value_at e i)) ≡ told_by valued e (unless there (Err NoBand) (Ok (value_at e i)))
there_is e i true = refl
there_is e i false = refl

read_found_is : (e : Equaliser) (o : Option ℕ) → read_found e o ≡ told_by valued e (stored_of e o)
unfolding read_found
read_found_is e (Some i) = there_is e i (ltb i 16)
read_found_is e None = refl

pub read_is : (e : Equaliser) (name : List ℕ) → read e name ≡ checked acceptable e (told_by valued e (stored e name))
unfolding read
read_is e name = rw (read_found_is e (index_of name))

pub reset_is : (e : Equaliser) → reset e ≡ checked acceptable e (done (rest e))
unfolding reset
reset_is e = refl

pub block_is : (e : Equaliser) (xs out : List Float) → block e xs out ≡ checked_block e out (run e xs) (acceptable e) xs
unfolding block
block_is e xs out = refl
