-- The noise gate keeps what the page `NoiseGate` promises.
-- Assumes nothing.
mod Reached
mod Apart
mod Hold
use Rattle.std.specs.Prelude.{Option, Some, None, Result, Ok, Err}
use mathlib.Core.Path.{◌≡◌, refl, sym, ap}
use mathlib.Core.Bool.{false, ◌&&◌}
use lib.Dec.{T}
use lib.Ieee.{le, lt, whole}
use lib.Ieee.Fits.{and_i, and_l, and_r}
use Rattle.answer.specs.Figures.{f32}
use Rattle.answer.specs.declared.Refusal.{Refusal}
use Rattle.noise_gate.specs.declared.Passed.{Passed}
use Rattle.float.specs.declared.Truncation.{Truncation}
use Rattle.answer.specs.Checks.{is_rate, is_smoothing}
use Rattle.answer.specs.Told.{Told, Unchanged}
use Rattle.answer.specs.Blocks.{checked_block}
use Rattle.answer.specs.declared.Refusal.TheVariants.{OutOfRange, BadWorkedNumber, BadRate, BadState}
use Rattle.answer.proofs.Told.{unchanged-done, unchanged-test, block-unchanged}
use Rattle.answer.proofs.Answers.{answer_back, reading-back}
use Rattle.answer.proofs.Refusals.{one-to-one, never_nought}
use Rattle.noise_gate_settings.specs.Ranges.{in_its_range, worked, settable}
use Rattle.noise_gate_settings.specs.Names.{named}
use Rattle.noise_gate_settings.specs.declared.Setting.{Setting}
use Rattle.noise_gate.specs.Bounds.{in_bounds, acceptable}
use Rattle.noise_gate.specs.Answers.{told_set, told_block}
use Rattle.float.proofs.Exactly.{words}
use Rattle.noise_gate.specs.Calls as calls
use Rattle.noise_gate.specs.Calls.{set_typed, set_found, read_found}
use Rattle.noise_gate.specs.declared.Gate.{Gate}
use Rattle.silence.specs.History.{carried}
use Rattle.silence.proofs.Accepted.{accepts, accepted-hold}
use Rattle.silence.proofs.Along.{along}
use Rattle.promises.specs.NoiseGate.{Refusals, Unmade, Accepted, Exactly, OneWay, HoldTold, Answers}
use Rattle.promises.proofs.NoiseGate.Reached.{reached-settable, settable-reached}
use Rattle.promises.proofs.NoiseGate.Apart.{typed-apart, named-apart}
use Rattle.promises.proofs.NoiseGate.Hold.{hold-said, hold-named, tells}

-- ---- refusals: each call is a chain of tests
module _ (g : Gate) where
  typed-unchanged : (t : Setting) → Unchanged g (set_typed g t)
  unfolding set_typed
  typed-unchanged t = unchanged-test (acceptable g) BadState (unchanged-test (in_its_range t) OutOfRange (unchanged-test (worked t) BadWorkedNumber (unchanged-done refl)))

  found-unchanged : (n : Option Setting) → Unchanged g (set_found g n)
  unfolding set_found
  found-unchanged (Some t) = typed-unchanged t
  found-unchanged None = record { kept = λ _. refl }

  read-unchanged : (n : Option Setting) → Unchanged g (read_found g n)
  unfolding read_found
  read-unchanged (Some t) = record { kept = λ _. refl }
  read-unchanged None = record { kept = λ _. refl }

pub refusals : Refusals
unfolding calls.set calls.read calls.reset calls.block
refusals = record {
  set_typed = typed-unchanged;
  set = λ g name v w. unchanged-test (acceptable g) BadState (found-unchanged g (named name v w));
  read = λ g name. unchanged-test (acceptable g) BadState (read-unchanged g _);
  reset = λ g. unchanged-test (acceptable g) BadState (unchanged-done refl);
  block = λ g xs out. block-unchanged g xs out _ (acceptable g) refl;
}

-- ---- a refused making: its rate is 0
unmade-refused : acceptable calls.unmade ≡ false
unfolding acceptable settable is_rate whole le lt f32
unmade-refused = refl

pub unmade : Unmade
unfolding calls.make set_typed calls.set calls.read calls.reset calls.block checked_block
unmade = record {
  make = λ rate rising falling. unchanged-test (is_rate rate) BadRate (unchanged-test (is_smoothing rising && is_smoothing falling) BadWorkedNumber (unchanged-done refl));
  set_typed = λ t. rw unmade-refused;
  set = λ name v w. rw unmade-refused;
  read = λ name. rw unmade-refused;
  reset = rw unmade-refused;
  block = λ xs out. rw unmade-refused;
}

-- ---- what 9 accepts
pub accepted : Accepted
accepted = record {
  carried_on = λ rate rising falling f d cs fs.
      let k = along (λ _ _. Unit {0}) tt (λ _ _ _ _ _ _ _ _ _. tt) rate rising falling f d cs fs in
      accepts (carried (calls.make rate rising falling).state cs) k.settable k.bounded;
  hold_in_samples = accepted-hold;
}

pub exactly : Exactly
unfolding acceptable
exactly = record {
  nine = λ g.
      let s = g.settings in
      let m = g.registers in
      (λ (t : T (acceptable g)). (settable-reached s (and_l (settable s) (in_bounds m) t), and_r (settable s) (in_bounds m) t), λ r. and_i (settable s) (in_bounds m) (reached-settable s r.0) r.1);
}

-- ---- decibels and factors
pub one_way : OneWay
one_way = record { set_typed = typed-apart; set = named-apart }

-- ---- the hold
pub hold-told : HoldTold
hold-told = record { typed = hold-said; by_name = hold-named; only = λ g c. (tells g c).1; neither = λ g c. (tells g c).0 }

-- ---- answers
module _ {g h : Gate} where
  setting-back : (a b : Result (Option Truncation) Refusal) → told_set g a ≡ told_set h b → (g ≡ h) × (a ≡ b)
  setting-back (Ok None) (Ok None) e = (ap (λ (t : Told Gate). t.state) e, refl)
  setting-back (Ok None) (Ok (Some k)) e = absurd (words.never_nought k.word (sym (ap (λ (t : Told Gate). t.word) e)))
  setting-back (Ok None) (Err r) e = absurd (never_nought r (ap (λ (t : Told Gate). t.number) e))
  setting-back (Ok (Some k)) (Ok None) e = absurd (words.never_nought k.word (ap (λ (t : Told Gate). t.word) e))
  setting-back (Ok (Some k)) (Ok (Some l)) e =
      let whole : k.whole ≡ l.whole = ap (λ (t : Told Gate). t.samples) e in
      let word = words.apart k.word l.word (ap (λ (t : Told Gate). t.word) e) in
      (ap (λ (t : Told Gate). t.state) e, ap (λ (t : Truncation). Ok (Some t)) (rw (← whole, ← word)))
  setting-back (Ok (Some k)) (Err r) e = absurd (never_nought r (ap (λ (t : Told Gate). t.number) e))
  setting-back (Err q) (Ok None) e = absurd (never_nought q (sym (ap (λ (t : Told Gate). t.number) e)))
  setting-back (Err q) (Ok (Some k)) e = absurd (never_nought q (sym (ap (λ (t : Told Gate). t.number) e)))
  setting-back (Err q) (Err r) e =
      (ap (λ (t : Told Gate). t.state) e, ap Err (one-to-one q r (ap (λ (t : Told Gate). t.number) e) (ap (λ (t : Told Gate). t.place) e)))

  passage-back : (a b : Result Passed Refusal) → told_block g a ≡ told_block h b → (g ≡ h) × (a ≡ b)
  passage-back (Ok p) (Ok q) e =
      let count : p.count ≡ q.count = ap (λ (t : Told Gate). t.count) e in
      let quiet : p.quiet ≡ q.quiet = ap (λ (t : Told Gate). t.quiet) e in
      (ap (λ (t : Told Gate). t.state) e, ap Ok (rw (← count, ← quiet)))
  passage-back (Ok p) (Err r) e = absurd (never_nought r (ap (λ (t : Told Gate). t.number) e))
  passage-back (Err q) (Ok p) e = absurd (never_nought q (sym (ap (λ (t : Told Gate). t.number) e)))
  passage-back (Err q) (Err r) e =
      (ap (λ (t : Told Gate). t.state) e, ap Err (one-to-one q r (ap (λ (t : Told Gate). t.number) e) (ap (λ (t : Told Gate). t.place) e)))

pub answers : Answers
answers = record {
  answer = λ g h. answer_back;
  setting = λ g h. setting-back;
  reading = λ g h. reading-back;
  passage = λ g h. passage-back;
}
