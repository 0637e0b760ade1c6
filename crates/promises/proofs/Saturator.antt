-- The multiband saturator keeps what the page `Saturator` promises.
-- Assumes nothing.
mod Settable
mod Reached
use Rattle.std.specs.Prelude.{Option, Some, None}
use mathlib.Core.Path.{◌≡◌, refl, sym, ap}
use mathlib.Core.Bool.{Bool, true, false}
use mathlib.Core.List.{List}
use lib.Ieee.{Float, le, lt, whole}
use Rattle.answer.specs.Figures.{f32}
use Rattle.answer.specs.Blocks.{checked_block}
use Rattle.answer.specs.Checks.{is_rate}
use Rattle.answer.specs.Refusals.{number}
use Rattle.answer.specs.Told.{Told, refused, done, unless, Unchanged}
use Rattle.answer.specs.declared.Refusal.TheVariants.{OutOfRange, BadWorkedNumber, BadRate, BadState}
use Rattle.answer.proofs.Answers.{answer_back, reading-back}
use Rattle.answer.proofs.Refusals.{never_nought}
use Rattle.answer.proofs.Told.{unchanged-done, unchanged-test, block-by, block-unchanged}
use Rattle.multiband_saturator_settings.specs.Ranges.{in_its_range, worked, with_setting, lent, settable}
use Rattle.multiband_saturator_settings.specs.Names.{named}
use Rattle.multiband_saturator_settings.specs.declared.Crossover.{Crossover}
use Rattle.multiband_saturator_settings.specs.declared.Setting.{Setting}
use Rattle.multiband_saturator.specs.Calls.{saturator_of, unmade, made, make, set_typed, set_found, set, read_found, read, reset, block}
use Rattle.multiband_saturator.specs.declared.Saturator.{Saturator}
use Rattle.promises.specs.Saturator.{Refusals, Unmade, Accepted, Exactly, Kept, Answers}
use Rattle.promises.proofs.Saturator.Settable.{made-settable, still-settable}
use Rattle.promises.proofs.Saturator.Reached.{reached}

-- ---- a refusal changes nothing
module _ (s : Saturator) where
  typed-unchanged : (t : Setting) → Unchanged s (set_typed s t)
  unfolding set_typed
  typed-unchanged t = unchanged-test (settable s.settings) BadState (unchanged-test (in_its_range t) OutOfRange (unchanged-test (worked t) BadWorkedNumber (unchanged-done refl)))

  found-unchanged : (n : Option Setting) → Unchanged s (set_found s n)
  unfolding set_found
  found-unchanged (Some t) = typed-unchanged t
  found-unchanged None = record { kept = λ _. refl }

  read-unchanged : (n : Option Setting) → Unchanged s (read_found s n)
  unfolding read_found
  read-unchanged (Some t) = record { kept = λ _. refl }
  read-unchanged None = record { kept = λ _. refl }

pub refusals : Refusals
unfolding set read reset block
refusals = record {
  set_typed = typed-unchanged;
  set = λ s name v c. unchanged-test (settable s.settings) BadState (found-unchanged s (named name v c));
  read = λ s name. unchanged-test (settable s.settings) BadState (read-unchanged s _);
  reset = λ s. unchanged-test (settable s.settings) BadState (unchanged-done refl);
  block = λ s xs out. block-unchanged s xs out _ (settable s.settings) refl;
}

-- ---- a refused making: its rate is 0
unmade-refused : settable unmade.settings ≡ false
unfolding settable is_rate whole le lt f32
unmade-refused = refl

pub unmade-kept : Unmade
unfolding make set_typed set read reset block checked_block
unmade-kept = record {
  make = λ rate low high attack release blocker. unchanged-test (is_rate rate) BadRate (unchanged-test (lent low high attack release blocker) BadWorkedNumber (unchanged-done refl));
  set_typed = λ t. rw unmade-refused;
  set = λ name v c. rw unmade-refused;
  read = λ name. rw unmade-refused;
  reset = rw unmade-refused;
  block = λ xs out. rw unmade-refused;
}

-- ---- reset and a block leave the settings, a setting the registers
either : {A : Type 0} (P : A → Type 0) (test : Bool) {rest otherwise : A} → P otherwise → P rest → P (unless test otherwise rest)
either P true p q = q
either P false p q = p

module _ (s : Saturator) where
  reset-settings : (reset s).state.settings ≡ s.settings
  unfolding reset
  reset-settings = either (λ (r : Told Saturator). r.state.settings ≡ s.settings) (settable s.settings) refl refl

  block-settings : (xs out : List Float) → (block s xs out).0.state.settings ≡ s.settings
  unfolding block
  block-settings xs out = block-by s xs out (λ r. r.0.state.settings ≡ s.settings) (settable s.settings) (λ r. refl) (λ _ _. refl)

  typed-registers : (t : Setting) → (set_typed s t).state.registers ≡ s.registers
  unfolding set_typed
  typed-registers t =
      let P : Told Saturator → Type 0 = λ r. r.state.registers ≡ s.registers in
      either P (settable s.settings) refl (either P (in_its_range t) refl (either P (worked t) refl refl))

pub kept : Kept
kept = record { reset = reset-settings; block = block-settings; set_typed = typed-registers }

-- ---- 9 accepts what calls leave
made-accepted : (rate : Float) (low high : Crossover) (attack release blocker : Float) → (make rate low high attack release blocker).number ≡ 0 → settable (make rate low high attack release blocker).state.settings ≡ true
unfolding make
made-accepted rate low high attack release blocker = go (is_rate rate) (lent low high attack release blocker) refl refl
  where
    told : Bool → Bool → Told Saturator
    told a b = unless a (refused unmade BadRate) (unless b (refused unmade BadWorkedNumber) (done (made rate low high attack release blocker)))

    go : (a b : Bool) → is_rate rate ≡ a → lent low high attack release blocker ≡ b → (told a b).number ≡ 0 → settable (told a b).state.settings ≡ true
    go false b p q e = absurd (never_nought BadRate (sym e))
    go true false p q e = absurd (never_nought BadWorkedNumber (sym e))
    go true true p q e = made-settable rate low high attack release blocker p q

module _ (s : Saturator) where
  typed-accepted : (t : Setting) → settable s.settings ≡ true → settable (set_typed s t).state.settings ≡ true
  unfolding set_typed
  typed-accepted t h = rw h (go (in_its_range t) (worked t) refl refl)
    where
      go : (a b : Bool) → in_its_range t ≡ a → worked t ≡ b → settable (unless a (refused s OutOfRange) (unless b (refused s BadWorkedNumber) (done (saturator_of (with_setting s.settings t) s.registers)))).state.settings ≡ true
      go false b p q = h
      go true false p q = h
      go true true p q = still-settable s.settings t h p q

  found-accepted : (n : Option Setting) → settable s.settings ≡ true → settable (set_found s n).state.settings ≡ true
  unfolding set_found
  found-accepted (Some t) h = typed-accepted t h
  found-accepted None h = h

pub accepted : Accepted
unfolding set
accepted = record {
  make = made-accepted;
  set_typed = typed-accepted;
  set = λ s name v c h. rw h (found-accepted s (named name v c) h);
  reset = λ s. ap settable (reset-settings s);
  block = λ s xs out. ap settable (block-settings s xs out);
}

pub exactly : Exactly
exactly = record { could_be_set = reached }

pub answers : Answers
answers = record { answer = λ s t. answer_back; reading = λ s t. reading-back }
