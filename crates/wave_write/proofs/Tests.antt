-- What holds of every refusal, and of a call whose four tests hold, holds of each call.
-- Assumes nothing.
use Prim.Native.Nat.{ℕ, ◌<◌}
use native.Mathlib.Omega.{arith}
use mathlib.Core.Path.{◌≡◌}
use mathlib.Core.Bool.{Bool, true}
use mathlib.Core.List.{List}
use Rattle.std.proofs.lemmas.Bool.{cond_both}
use Rattle.answer.specs.Told.{unless}
use Rattle.wave_write.specs.Answers.{refused}
use Rattle.wave_write.specs.declared.Figures.{Figures}

module _ (P : Figures × List ℕ → Type 0) (out : List ℕ) (refusals : (n : ℕ) → 0 < n → P (refused n, out)) where
  test : (t : Bool) (n : ℕ) (x : Figures × List ℕ) → 0 < n → (t ≡ true → P x) → P (unless t (refused n, out) x)
  test t n x l h = cond_both t x (refused n, out) P h (λ _. refusals n l)

  pub by-tests : (rated even short room : Bool) (x : Figures × List ℕ) → (rated ≡ true → even ≡ true → short ≡ true → room ≡ true → P x) → P (unless rated (refused 5, out) (unless even (refused 14, out) (unless short (refused 17, out) (unless room (refused 15, out) x))))
  by-tests rated even short room x passes =
      test rated 5 _ (omega arith) (λ r.
      test even 14 _ (omega arith) (λ e.
      test short 17 _ (omega arith) (λ s.
      test room 15 x (omega arith) (passes r e s))))
