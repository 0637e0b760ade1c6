-- The leveller keeps what the page `Leveller` promises.
-- Assumes nothing.
mod Settable
mod Sample
mod Carried
mod Heard
mod Apart
use Rattle.std.specs.Prelude.{Option, Some, None}
use mathlib.Core.Path.{◌≡◌, refl, subst}
use mathlib.Core.Bool.{true, false, ◌&&◌}
use mathlib.Core.List.{[], ◌∷◌}
use lib.Dec.{T}
use lib.Ieee.{binary32, fits, le, lt, whole}
use lib.Ieee.Fits.{and_i, and_l, and_r}
use Rattle.answer.specs.Figures.{f32, nought}
use Rattle.answer.specs.Checks.{is_rate, is_smoothing}
use Rattle.answer.specs.Told.{Unchanged}
use Rattle.answer.specs.Blocks.{checked_block}
use Rattle.answer.specs.declared.Refusal.TheVariants.{OutOfRange, BadWorkedNumber, BadRate, BadState}
use Rattle.answer.proofs.Samples.{accepted-size}
use Rattle.answer.proofs.Told.{unchanged-done, unchanged-test, block-unchanged}
use Rattle.answer.proofs.Answers.{answer_back, reading-back}
use Rattle.leveller_settings.specs.Ranges.{in_its_range, worked, settable}
use Rattle.leveller_settings.specs.Names.{named}
use Rattle.leveller_settings.specs.declared.Settings.{Settings}
use Rattle.leveller_settings.specs.declared.Setting.{Setting}
use Rattle.leveller.specs.Bounds.{in_bounds, acceptable}
use Rattle.leveller.specs.Calls as calls
use Rattle.leveller.specs.Calls.{set_typed, set_found, read_found}
use Rattle.leveller.specs.declared.Leveller.{Leveller}
use Rattle.silence.specs.History.{all_f32}
use Rattle.promises.specs.LevellerCalls.{carried}
use Rattle.promises.specs.Leveller.{Refusals, Unmade, Accepted, Reached, Exactly, OneWay, EachSample, Blocks, Through, Answers}
use Rattle.promises.proofs.Leveller.Settable.{settable-is, is-settable, is-bounded, accepts}
use Rattle.promises.proofs.Leveller.Sample.{sample-holds}
use Rattle.promises.proofs.Leveller.Carried.{carried_on, settable-reached}
use Rattle.promises.proofs.Leveller.Heard.{heard, given, counts-none, through as same_bits}
use Rattle.promises.proofs.Leveller.Apart.{typed-apart, named-apart}

-- ---- refusals: each call is a chain of tests
module _ (l : Leveller) where
  typed-unchanged : (t : Setting) → Unchanged l (set_typed l t)
  unfolding set_typed
  typed-unchanged t = unchanged-test (acceptable l) BadState (unchanged-test (in_its_range t) OutOfRange (unchanged-test (worked t) BadWorkedNumber (unchanged-done refl)))

  found-unchanged : (n : Option Setting) → Unchanged l (set_found l n)
  unfolding set_found
  found-unchanged (Some t) = typed-unchanged t
  found-unchanged None = record { kept = λ _. refl }

  read-unchanged : (n : Option Setting) → Unchanged l (read_found l n)
  unfolding read_found
  read-unchanged (Some t) = record { kept = λ _. refl }
  read-unchanged None = record { kept = λ _. refl }

pub refusals : Refusals
unfolding calls.set calls.read calls.reset calls.block
refusals = record {
  set_typed = typed-unchanged;
  set = λ l name v w. unchanged-test (acceptable l) BadState (found-unchanged l (named name v w));
  read = λ l name. unchanged-test (acceptable l) BadState (read-unchanged l _);
  reset = λ l. unchanged-test (acceptable l) BadState (unchanged-done refl);
  block = λ l xs out. block-unchanged l xs out _ (acceptable l) refl;
}

-- ---- a refused making: its rate is 0
unmade-refused : acceptable calls.unmade ≡ false
unfolding acceptable settable is_rate whole le lt f32
unmade-refused = refl

pub unmade : Unmade
unfolding calls.make set_typed calls.set calls.read calls.reset calls.block checked_block
unmade = record {
  make = λ rate rising falling. unchanged-test (is_rate rate) BadRate (unchanged-test (is_smoothing rising && is_smoothing falling) BadWorkedNumber (unchanged-done refl));
  set_typed = λ t. rw unmade-refused;
  set = λ name v w. rw unmade-refused;
  read = λ name. rw unmade-refused;
  reset = rw unmade-refused;
  block = λ xs out. rw unmade-refused;
}

-- ---- what 9 accepts
some-made : (calls.make (f32 48000 1) nought nought).number ≡ 0
unfolding calls.make is_rate is_smoothing whole le lt f32
some-made = refl

pub accepted : Accepted
accepted = record {
  some = some-made;
  carried_on = λ rate rising falling f d cs fs.
      let k = carried_on rate rising falling f d cs fs in
      accepts (carried (calls.make rate rising falling).state cs) k.settable k.level;
}

reached-settable : (s : Settings) → Reached s → T (settable s)
reached-settable s r =
    let k = carried_on r.rate r.rising r.falling r.by_f32.0 r.made r.since r.by_f32.1 in
    subst (λ (t : Settings). T (settable t)) r.left (settable-is (carried (calls.make r.rate r.rising r.falling).state r.since).settings k.settable)

pub exactly : Exactly
unfolding acceptable
exactly = record {
  nine = λ l f.
      let s = l.settings in
      let m = l.registers in
      (λ (t : T (acceptable l)). (settable-reached s (and_l (settable s) (in_bounds m) t) f, and_r (settable s) (in_bounds m) t), λ r. and_i (settable s) (in_bounds m) (reached-settable s r.0) r.1);
}

-- ---- decibels and factors
pub one_way : OneWay
one_way = record { set_typed = typed-apart; set = named-apart }

-- ---- answers
pub answers : Answers
answers = record { answer = λ l k. answer_back; reading = λ l k. reading-back }

-- ---- one sample
pub each-sample : EachSample
unfolding acceptable f32
each-sample = record {
  holds = λ s m x h.
      let numbers = h.by_f32.1 in
      let fx = and_l (fits binary32 x) true (and_r (fits binary32 m.level) (all_f32 (x ∷ [])) numbers) in
      sample-holds s m x (is-settable s (and_l (settable s) (in_bounds m) h.accepted) h.by_f32.0)
      (is-bounded m (and_r (settable s) (in_bounds m) h.accepted) (and_l (fits binary32 m.level) (all_f32 (x ∷ [])) numbers)) fx (accepted-size x h.sample);
}

-- ---- blocks
pub blocks : Blocks
blocks = record { heard = heard; given = given; count = counts-none }

pub through : Through
through = record { block = same_bits }
