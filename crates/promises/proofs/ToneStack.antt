-- The tone stack keeps what the page `ToneStack` promises.
-- Assumes nothing.
mod Clamped
mod Reached
use Rattle.std.specs.Prelude.{Option, Some, None}
use mathlib.Core.Path.{◌≡◌, refl, ap}
use mathlib.Core.Bool.{Bool, true, false}
use mathlib.Core.List.{List}
use lib.Ieee.{Float, le, lt, whole}
use Rattle.answer.specs.Figures.{f32}
use Rattle.answer.specs.Blocks.{checked_block}
use Rattle.answer.specs.Checks.{is_rate}
use Rattle.answer.specs.Told.{Told, refused, done, unless, Unchanged}
use Rattle.answer.specs.declared.Refusal.TheVariants.{OutOfRange, BadWorkedNumber, BadRate, BadState}
use Rattle.answer.proofs.Answers.{answer_back, reading-back}
use Rattle.answer.proofs.Told.{unchanged-done, unchanged-test, block-by, block-unchanged}
use Rattle.common.specs.declared.frequencies.Model.{Model}
use Rattle.common.specs.declared.frequencies.Model.TheVariants.{Modern, British, American, Flat}
use Rattle.tonestack_sample.specs.Models.{number_of, model_of}
use Rattle.tonestack_sample.specs.Ranges.{is_number, worked, with_setting, settable}
use Rattle.tonestack_sample.specs.Names.{named}
use Rattle.tonestack_sample.specs.declared.Setting.{Setting}
use Rattle.tonestack.specs.Calls.{tone_of, acceptable, unmade, make, set_typed, set_found, set, read_found, read, reset, block}
use Rattle.tonestack.specs.declared.Tone.{Tone}
use Rattle.promises.specs.ToneStack.{Refusals, Unmade, Accepted, Exactly, Kept, Answers}
use Rattle.promises.proofs.ToneStack.Clamped.{made-settable, still-settable}
use Rattle.promises.proofs.ToneStack.Reached.{reached}

-- ---- a refusal changes nothing
module _ (t : Tone) where
  typed-unchanged : (v : Setting) → Unchanged t (set_typed t v)
  unfolding set_typed
  typed-unchanged v = unchanged-test (acceptable t) BadState (unchanged-test (is_number v) OutOfRange (unchanged-test (worked v) BadWorkedNumber (unchanged-done refl)))

  found-unchanged : (n : Option Setting) → Unchanged t (set_found t n)
  unfolding set_found
  found-unchanged (Some v) = typed-unchanged v
  found-unchanged None = record { kept = λ _. refl }

  read-unchanged : (n : Option Setting) → Unchanged t (read_found t n)
  unfolding read_found
  read-unchanged (Some v) = record { kept = λ _. refl }
  read-unchanged None = record { kept = λ _. refl }

pub refusals : Refusals
unfolding set read reset block
refusals = record {
  set_typed = typed-unchanged;
  set = λ t name v w. unchanged-test (acceptable t) BadState (found-unchanged t (named name v w));
  read = λ t name. unchanged-test (acceptable t) BadState (read-unchanged t _);
  reset = λ t. unchanged-test (acceptable t) BadState (unchanged-done refl);
  block = λ t xs out. block-unchanged t xs out _ (acceptable t) refl;
}

-- ---- a refused making: its rate is 0
unmade-refused : acceptable unmade ≡ false
unfolding acceptable settable is_rate whole le lt f32
unmade-refused = refl

pub unmade-kept : Unmade
unfolding make set_typed set read reset block checked_block
unmade-kept = record {
  make = λ model rate. unchanged-test (is_rate rate) BadRate (unchanged-done refl);
  set_typed = λ v. rw unmade-refused;
  set = λ name v w. rw unmade-refused;
  read = λ name. rw unmade-refused;
  reset = rw unmade-refused;
  block = λ xs out. rw unmade-refused;
}

-- ---- reset and a block leave the settings
either : {A : Type 0} (P : A → Type 0) (test : Bool) {rest otherwise : A} → P otherwise → P rest → P (unless test otherwise rest)
either P true p q = q
either P false p q = p

module _ (t : Tone) where
  reset-settings : (reset t).state.settings ≡ t.settings
  unfolding reset
  reset-settings = either (λ (r : Told Tone). r.state.settings ≡ t.settings) (acceptable t) refl refl

  block-settings : (xs out : List Float) → (block t xs out).0.state.settings ≡ t.settings
  unfolding block
  block-settings xs out = block-by t xs out (λ r. r.0.state.settings ≡ t.settings) (acceptable t) (λ r. refl) (λ _ _. refl)

numbered-back : (m : Model) → model_of (number_of m) ≡ m
unfolding model_of number_of
numbered-back Modern = refl
numbered-back British = refl
numbered-back American = refl
numbered-back Flat = refl

pub kept : Kept
kept = record { reset = reset-settings; block = block-settings; model = numbered-back }

-- ---- 9 accepts what calls leave
module _ (t : Tone) where
  typed-accepted : (v : Setting) → acceptable t ≡ true → acceptable (set_typed t v).state ≡ true
  unfolding set_typed acceptable
  typed-accepted v h = rw h (go (is_number v) (worked v) refl refl)
    where
      go : (a b : Bool) → is_number v ≡ a → worked v ≡ b → settable (unless a (refused t OutOfRange) (unless b (refused t BadWorkedNumber) (done (tone_of (with_setting t.settings v) t.registers)))).state.settings ≡ true
      go false b p q = h
      go true false p q = h
      go true true p q = still-settable t.settings v h p q

  found-accepted : (n : Option Setting) → acceptable t ≡ true → acceptable (set_found t n).state ≡ true
  unfolding set_found
  found-accepted (Some v) h = typed-accepted v h
  found-accepted None h = h

pub accepted : Accepted
unfolding make set acceptable
accepted = record {
  make = λ model rate h. rw h (made-settable model rate h);
  set_typed = typed-accepted;
  set = λ t name v w h. rw h (found-accepted t (named name v w) h);
  reset = λ t. ap settable (reset-settings t);
  block = λ t xs out. ap settable (block-settings t xs out);
}

pub exactly : Exactly
exactly = record { could_be_set = reached }

pub answers : Answers
answers = record { answer = λ t u. answer_back; reading = λ t u. reading-back }
