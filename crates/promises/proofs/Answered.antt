-- What a call says of its answer is told's, as the page `Answered` promises.
-- Assumes nothing.
use Rattle.std.specs.Prelude.{◌≡◌, refl, Float, Result, Ok, Err, ⊤}
use mathlib.Core.Path.{sym, ap}
use Rattle.answer.specs.Told.{Told, told, told_made, told_read, done}
use Rattle.answer.specs.declared.Refusal.{Refusal}
use Rattle.answer.proofs.Refusals.{one-to-one, never_nought}
use Rattle.stage.specs.Calls.{told_by, valued}
use Rattle.promises.specs.Answered.{Answered}

call-told : {S : Type 0} (s : S) (a : Result ⊤ Refusal) → told_by (λ s _. done s) s a ≡ told s a
call-told s (Ok _) = refl
call-told s (Err r) = refl

reading-told : {S : Type 0} (s : S) (a : Result Float Refusal) → told_by valued s a ≡ told_read s a
reading-told s (Ok x) = refl
reading-told s (Err r) = refl

making-back : {S : Type 0} (unmade : S) (a b : Result S Refusal) → told_made unmade a ≡ told_made unmade b → a ≡ b
making-back {S} unmade (Ok s) (Ok t) e = ap Ok (ap (λ (w : Told S). w.state) e)
making-back {S} unmade (Ok s) (Err r) e = absurd (never_nought r (ap (λ (w : Told S). w.number) e))
making-back {S} unmade (Err q) (Ok t) e = absurd (never_nought q (sym (ap (λ (w : Told S). w.number) e)))
making-back {S} unmade (Err q) (Err r) e = ap Err (one-to-one q r (ap (λ (w : Told S). w.number) e) (ap (λ (w : Told S). w.place) e))

pub answered : (S : Type 0) → Answered S
answered S = record { call = call-told; reading = reading-told; making = making-back }
