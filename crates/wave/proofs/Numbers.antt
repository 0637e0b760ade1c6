-- Every number that the walk stops with is above 0.
-- Assumes nothing.
use Prim.Native.Nat.{ℕ, zero, suc, ◌+◌, ◌<◌}
use native.Mathlib.Omega.{arith}
use mathlib.Core.Path.{◌≡◌}
use mathlib.Core.Bool.{Bool, ◌&&◌, cond}
use mathlib.Core.List.{List}
use lib.Dec.{eqb, ltb, leb}
use Rattle.std.proofs.lemmas.Bool.{cond_both}
use Rattle.std.specs.Prelude.{Option}
use Rattle.answer.specs.Told.{unless}
use Rattle.words.specs.Words.{word32}
use Rattle.wave.specs.Reading.{Met, Data, Stops, Step, Ends, On, follow, is_rate, is_format, is_data, is_first_format, size_at, behind, format_step, step, chunks}

abbrev Above : Met → Type 0
Above (Data at rate) = Unit {0}
Above (Stops n) = 0 < n

abbrev AboveAt : Step → Type 0
AboveAt (Ends m) = Above m
AboveAt (On at rate) = Unit {0}

test : (t : Bool) (n : ℕ) (x : Step) → 0 < n → AboveAt x → AboveAt (unless t (Ends (Stops n)) x)
test t n x l h = cond_both t x (Ends (Stops n)) AboveAt (λ _. h) (λ _. l)

either : (t : Bool) (x y : Step) → AboveAt x → AboveAt y → AboveAt (cond t x y)
either t x y h k = cond_both t x y AboveAt (λ _. h) (λ _. k)

module _ (s : List ℕ) (end : ℕ) where
  at-format : (place size next : ℕ) → AboveAt (format_step s place size next)
  unfolding format_step
  at-format place size next =
      test (eqb size 16 && is_format s place) 13 _ (omega arith) (test (is_rate (word32 s (place + 4))) 5 _ (omega arith) tt)

  at-chunk : (at : ℕ) (rate : Option ℕ) → AboveAt (step s end at rate)
  unfolding step
  at-chunk at rate =
      test (ltb at end) 12 _ (omega arith)
      (test (leb (at + 8) end) 11 _ (omega arith)
      (either (is_data s at) _ _ tt
      (test (leb (behind s at) end) 11 _ (omega arith)
      (either (is_first_format s at rate) _ _ (at-format (at + 8) (size_at s at) (behind s at)) tt))))

  followed : (t : Step) (next : ℕ → Option ℕ → Met) → AboveAt t → ((at : ℕ) (rate : Option ℕ) → Above (next at rate)) → Above (follow t next)
  followed (Ends m) next h k = h
  followed (On at rate) next h k = k at rate

  all_above : (k at : ℕ) (rate : Option ℕ) → Above (chunks s end k at rate)
  unfolding chunks
  all_above zero at rate = omega arith
  all_above (suc k) at rate = followed (step s end at rate) (chunks s end k) (at-chunk at rate) (all_above k)

  pub above : (k at : ℕ) (rate : Option ℕ) {n : ℕ} → chunks s end k at rate ≡ Stops n → 0 < n
  above k at rate e = rw e at (all_above k at rate)
