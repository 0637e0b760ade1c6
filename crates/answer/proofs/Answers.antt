-- What a call tells gives its state and its answer back: no two answers tell the same, in words or in the numbers that cross to a host.
-- Assumes nothing.
use Rattle.std.specs.Prelude.{ℕ, Float, Result, Ok, Err, MatchResult, ⊤}
use mathlib.Core.Path.{◌≡◌, refl, sym, ap}
use Rattle.float.specs.Truncating as truncating
use Rattle.float.specs.declared.Truncation.{Truncation}
use Rattle.answer.specs.Told.{Told, done_hold, done_passed, told, told_read}
use Rattle.answer.specs.Crossing.{told_in, of_refusal, of_done, of_hold, of_passed}
use Rattle.answer.specs.Figures.{nought}
use Rattle.answer.specs.declared.Numbered.{Numbered}
use Rattle.answer.specs.declared.Refusal.{Refusal}
use Rattle.answer.proofs.Refusals.{one-to-one, never_nought}

module _ {S : Type 0} {s t : S} where
  pub answer_back : (a b : Result ⊤ Refusal) → told s a ≡ told t b → (s ≡ t) × (a ≡ b)
  answer_back (Ok _) (Ok _) e = (ap (λ (w : Told S). w.state) e, refl)
  answer_back (Ok _) (Err r) e = absurd (never_nought r (ap (λ (w : Told S). w.number) e))
  answer_back (Err q) (Ok _) e = absurd (never_nought q (sym (ap (λ (w : Told S). w.number) e)))
  answer_back (Err q) (Err r) e =
      (ap (λ (w : Told S). w.state) e, ap Err (one-to-one q r (ap (λ (w : Told S). w.number) e) (ap (λ (w : Told S). w.place) e)))

  pub reading-back : (a b : Result Float Refusal) → told_read s a ≡ told_read t b → (s ≡ t) × (a ≡ b)
  reading-back (Ok x) (Ok y) e = (ap (λ (w : Told S). w.state) e, ap Ok (ap (λ (w : Told S). w.value) e))
  reading-back (Ok x) (Err r) e = absurd (never_nought r (ap (λ (w : Told S). w.number) e))
  reading-back (Err q) (Ok y) e = absurd (never_nought q (sym (ap (λ (w : Told S). w.number) e)))
  reading-back (Err q) (Err r) e =
      (ap (λ (w : Told S). w.state) e, ap Err (one-to-one q r (ap (λ (w : Told S). w.number) e) (ap (λ (w : Told S). w.place) e)))

-- ---- an answer that crosses tells what the answer tells
module _ {S : Type 0} (s : S) where
  pub hold-crosses : (t : Truncation) → told_in s (of_hold t) ≡ done_hold s t.whole (truncating.number t.word)
  unfolding of_hold
  hold-crosses t = refl

  pub passed-crosses : (count quiet : ℕ) → told_in s (of_passed count quiet) ≡ done_passed s count quiet
  unfolding of_passed
  passed-crosses count quiet = refl

module _ {S : Type 0} (s : S) {n : Numbered} where
  pub answer-crosses : (a : Result ⊤ Refusal) → MatchResult a (λ _. n ≡ of_done 0 nought) (λ r. n ≡ of_refusal r) → told_in s n ≡ told s a
  unfolding of_done of_refusal
  answer-crosses (Ok _) e = rw e refl
  answer-crosses (Err r) e = rw e refl

  pub reading-crosses : (a : Result Float Refusal) → MatchResult a (λ x. n ≡ of_done 0 x) (λ r. n ≡ of_refusal r) → told_in s n ≡ told_read s a
  unfolding of_done of_refusal
  reading-crosses (Ok x) e = rw e refl
  reading-crosses (Err r) e = rw e refl

-- ---- what is told of a call holds the state after it
pub state-told : {S : Type 0} (s : S) (a : Result ⊤ Refusal) {t : Told S} → told s a ≡ t → s ≡ t.state
state-told {S} s (Ok _) e = ap (λ (w : Told S). w.state) e
state-told {S} s (Err r) e = ap (λ (w : Told S). w.state) e
