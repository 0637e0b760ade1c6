-- What a stage's call, a gate's setting and its block answer tells the same where it crosses. Assumes nothing.
use Rattle.std.specs.Prelude.{◌≡◌, refl, Option, Some, None, Result, Ok, Err, MatchOption, MatchResult, ⊤}
use Rattle.float.specs.declared.Truncation.{Truncation}
use Rattle.answer.specs.Figures.{nought}
use Rattle.answer.specs.Crossing.{told_in, of_refusal, of_done, of_hold, of_passed}
use Rattle.answer.specs.declared.Numbered.{Numbered}
use Rattle.answer.specs.declared.Refusal.{Refusal}
use Rattle.answer.specs.Told.{done}
use Rattle.answer.proofs.Answers.{hold-crosses, passed-crosses as counts-cross}
use Rattle.stage.specs.Calls.{told_by}
use Rattle.noise_gate.specs.Answers.{told_set, told_block}
use Rattle.noise_gate.specs.declared.Gate.{Gate}
use Rattle.noise_gate.specs.declared.Passed.{Passed}

-- of a stage whose calls have no more to say
pub done-crosses : {S : Type 0} (s : S) {n : Numbered} (a : Result ⊤ Refusal) → MatchResult a (λ _. n ≡ of_done 0 nought) (λ r. n ≡ of_refusal r) → told_in s n ≡ told_by (λ s _. done s) s a
unfolding of_done of_refusal
done-crosses s (Ok _) e = rw e refl
done-crosses s (Err r) e = rw e refl

module _ (g : Gate) {n : Numbered} where
  pub set-crosses : (a : Result (Option Truncation) Refusal) → MatchResult a (λ o. MatchOption o (n ≡ of_done 0 nought) (λ t. n ≡ of_hold t)) (λ r. n ≡ of_refusal r) → told_in g n ≡ told_set g a
  unfolding of_done of_refusal
  set-crosses (Ok None) e = rw e refl
  set-crosses (Ok (Some t)) e = rw e (hold-crosses g t)
  set-crosses (Err r) e = rw e refl

  pub passed-crosses : (a : Result Passed Refusal) → MatchResult a (λ p. n ≡ of_passed p.count p.quiet) (λ r. n ≡ of_refusal r) → told_in g n ≡ told_block g a
  unfolding of_refusal
  passed-crosses (Ok p) e = rw e (counts-cross g p.count p.quiet)
  passed-crosses (Err r) e = rw e refl
