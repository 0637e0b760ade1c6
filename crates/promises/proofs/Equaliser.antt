-- The equaliser keeps what the page `Equaliser` promises.
-- Assumes nothing.
mod Settable
mod Reached
use Rattle.std.specs.Prelude.{Option, Some, None}
use mathlib.Core.Path.{◌≡◌, refl, ap}
use mathlib.Core.Bool.{Bool, true, false}
use mathlib.Core.List.{List}
use Prim.Native.Nat.{ℕ}
use native.Mathlib.Omega.{arith}
use lib.Dec.{ltb}
use lib.Seq.{get_or-set_other}
use lib.Ieee.{Float, le, lt, whole}
use Rattle.answer.specs.Figures.{f32}
use Rattle.answer.specs.Blocks.{checked_block}
use Rattle.answer.specs.Checks.{is_rate}
use Rattle.answer.specs.Told.{Told, refused, done, unless, Unchanged}
use Rattle.answer.specs.declared.Decibels.{Decibels}
use Rattle.answer.specs.declared.Refusal.{Refusal}
use Rattle.answer.specs.declared.Refusal.TheVariants.{NoBand, OutOfRange, BadWorkedNumber, BadRate, BadState}
use Rattle.answer.proofs.Answers.{answer_back, reading-back}
use Rattle.answer.proofs.Told.{unchanged-done, unchanged-test, block-by, block-unchanged}
use Rattle.eq_bands.specs.Bands.{in_its_range, worked, settable}
use Rattle.eq_bands.specs.Names.{index_of, named}
use Rattle.eq_bands.specs.declared.Numbers.{Numbers}
use Rattle.eq_bands.specs.declared.Setting.{Setting}
use Rattle.eq_bands.specs.declared.Setting.TheVariants.{Band}
use Rattle.eq.specs.States.{acceptable, unmade, band_at, delay_at, with_band}
use Rattle.eq.specs.Calls.{make, set_band, set_found, set, read_found, read, reset, block}
use Rattle.eq.specs.declared.Equaliser.{Equaliser}
use Rattle.promises.specs.Equaliser.{Refusals, Unmade, Accepted, Exactly, Other, Kept, Answers}
use Rattle.promises.proofs.Equaliser.Settable.{made-accepted, set-accepted}
use Rattle.promises.proofs.Equaliser.Reached.{reached}

-- ---- a refusal changes nothing
module _ (e : Equaliser) where
  band-unchanged : (i : ℕ) (value : Decibels) (numbers : Numbers) → Unchanged e (set_band e i value numbers)
  unfolding set_band
  band-unchanged i value numbers =
      unchanged-test (acceptable e) BadState
      (unchanged-test (ltb i 16) NoBand
      (unchanged-test (in_its_range value) OutOfRange
      (unchanged-test (worked numbers) BadWorkedNumber (unchanged-done refl))))

  found-unchanged : (t : Option Setting) → Unchanged e (set_found e t)
  unfolding set_found
  found-unchanged (Some (Band i value numbers)) = band-unchanged i value numbers
  found-unchanged None = record { kept = λ _. refl }

  read-unchanged : (i : Option ℕ) → Unchanged e (read_found e i)
  unfolding read_found
  read-unchanged (Some i) = unchanged-test (ltb i 16) NoBand (unchanged-done refl)
  read-unchanged None = record { kept = λ _. refl }

pub refusals : Refusals
unfolding set read reset block
refusals = record {
  set_band = band-unchanged;
  set = λ e name value numbers. unchanged-test (acceptable e) BadState (found-unchanged e (named name value numbers));
  read = λ e name. unchanged-test (acceptable e) BadState (read-unchanged e (index_of name));
  reset = λ e. unchanged-test (acceptable e) BadState (unchanged-done refl);
  block = λ e xs out. block-unchanged e xs out _ (acceptable e) refl;
}

-- ---- a refused making: its rate is 0
unmade-refused : acceptable unmade ≡ false
unfolding acceptable settable is_rate whole le lt f32
unmade-refused = refl

pub unmade-kept : Unmade
unfolding make set_band set read reset block checked_block
unmade-kept = record {
  make = λ rate. unchanged-test (is_rate rate) BadRate (unchanged-done refl);
  set_band = λ i value numbers. rw unmade-refused;
  set = λ name value numbers. rw unmade-refused;
  read = λ name. rw unmade-refused;
  reset = rw unmade-refused;
  block = λ xs out. rw unmade-refused;
}

-- ---- what a call keeps
-- what holds of e holds after a chain of tests on e, if it holds of what is done
module _ {e : Equaliser} (P : Told Equaliser → Type 0) (refusal : (r : Refusal) → P (refused e r)) where
  after_test : (test : Bool) (r : Refusal) {rest : Told Equaliser} → (test ≡ true → P rest) → P (unless test (refused e r) rest)
  after_test true r p = p refl
  after_test false r p = refusal r

  after-set : (i : ℕ) (value : Decibels) (numbers : Numbers)
      → (acceptable e ≡ true → in_its_range value ≡ true → worked numbers ≡ true → P (done (with_band e i value numbers)))
      → P (set_band e i value numbers)
  unfolding set_band
  after-set i value numbers p =
      after_test (acceptable e) BadState (λ a.
      after_test (ltb i 16) NoBand (λ _.
      after_test (in_its_range value) OutOfRange (λ r.
      after_test (worked numbers) BadWorkedNumber (λ w. p a r w))))

module _ (e : Equaliser) where
  set-kept : (i j : ℕ) (value : Decibels) (numbers : Numbers) → (j ≡ i → ⊥) → Other e j (done (with_band e i value numbers))
  unfolding with_band band_at delay_at
  set-kept i j value numbers n = record {
    band = get_or-set_other e.settings.bands i j _ _ n;
    delay = get_or-set_other e.registers.bands i j _ _ n;
  }

  others-kept : (i j : ℕ) (value : Decibels) (numbers : Numbers) → (j ≡ i → ⊥) → Other e j (set_band e i value numbers)
  others-kept i j value numbers n = after-set (Other e j) (λ _. record { band = refl; delay = refl }) i value numbers (λ _ _ _. set-kept i j value numbers n)

  reset-kept : (reset e).state.settings ≡ e.settings
  unfolding reset
  reset-kept = after_test (λ (t : Told Equaliser). t.state.settings ≡ e.settings) (λ _. refl) (acceptable e) BadState (λ _. refl)

  block-kept : (xs out : List Float) → (block e xs out).0.state.settings ≡ e.settings
  unfolding block
  block-kept xs out = block-by e xs out (λ t. t.0.state.settings ≡ e.settings) (acceptable e) (λ r. refl) (λ _ _. refl)

pub kept : Kept
kept = record { others = others-kept; reset = reset-kept; block = block-kept }

-- ---- 9 accepts what calls leave
made-settable : (rate : Float) → (make rate).number ≡ 0 → acceptable (make rate).state ≡ true
unfolding make
made-settable rate n = go (is_rate rate) refl
  where
    go : (b : Bool) → is_rate rate ≡ b → acceptable (make rate).state ≡ true
    go true r = rw r (made-accepted rate r)
    go false r = absurd (omega (arith, rw r at n))

module _ (e : Equaliser) (a : acceptable e ≡ true) where
  abbrev StillAccepted : Told Equaliser → Type 0
  StillAccepted t = acceptable t.state ≡ true

  band-accepted : (i : ℕ) (value : Decibels) (numbers : Numbers) → acceptable (set_band e i value numbers).state ≡ true
  band-accepted i value numbers = after-set StillAccepted (λ _. a) i value numbers (set-accepted e i value numbers)

  found-accepted : (t : Option Setting) → acceptable (set_found e t).state ≡ true
  unfolding set_found
  found-accepted (Some (Band i value numbers)) = band-accepted i value numbers
  found-accepted None = a

  named-accepted : (name : List ℕ) (value : Decibels) (numbers : Numbers) → acceptable (set e name value numbers).state ≡ true
  unfolding set
  named-accepted name value numbers = after_test StillAccepted (λ _. a) (acceptable e) BadState (λ _. found-accepted (named name value numbers))

pub accepted : Accepted
unfolding acceptable
accepted = record {
  make = made-settable;
  set_band = λ e i value numbers a. band-accepted e a i value numbers;
  set = λ e name value numbers a. named-accepted e a name value numbers;
  reset = λ e. ap settable (reset-kept e);
  block = λ e xs out. ap settable (block-kept e xs out);
}

pub exactly : Exactly
exactly = record { could_be_set = reached }

pub answers : Answers
answers = record { answer = λ e f. answer_back; reading = λ e f. reading-back }
