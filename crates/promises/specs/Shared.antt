-- What the parts that every stage uses promise beyond their functions' equations: the first refused sample, names, a block's samples, rounding. Statements only.
-- Assumes nothing.
use Rattle.std.specs.Prelude.{◌≡◌, ◌↔◌, Bool, true, false, List, ℕ, ◌*◌, ◌≤◌, ◌<◌, ℤ, T, length, take, get_or, Float}
use Rattle.std.specs.Float.{fin, Format}
use Rattle.std.specs.Float.Ieee.{up, down, round, fits, le, mul, sub}
use Rattle.rounding.specs.Fma.{fma}
use Rattle.answer.specs.Figures.{nought, one}
use Rattle.answer.specs.Checks.{is_refused, first_refused}
use Rattle.answer.specs.Names.{same}
use Rattle.fold.specs.Fold.{state_after, out_after, count_after}

-- 6 "carries the place of the first sample that is refused": the sample there is, none before it is; the length stands for none
pub record FirstRefused : Type 0 where
  pub there : (xs : List Float) (d : Float) → first_refused xs < length xs → is_refused (get_or xs (first_refused xs) d) ≡ true
  pub before : (xs : List Float) (k : ℕ) (d : Float) → k < first_refused xs → is_refused (get_or xs k d) ≡ false
  pub most : (xs : List Float) → first_refused xs ≤ length xs

-- "The names are those words as bytes": two are the same exactly if they are equal, byte for byte
pub record Names : Type 0 where
  pub equal : (a b : List ℕ) → (same a b ≡ true) ↔ (a ≡ b)

-- a block is its samples one after the other, for any stage: at each place stands the step's output, in the state that the samples before it leave; and at most all are counted
pub record Blocks {S X Y : Type 0} (next : S → X → S) (out : S → X → Y) (test : S → X → Bool) : Type 0 where
  pub each : (s : S) (xs : List X) (k : ℕ) (d : X) (e : Y) → k < length xs → get_or (out_after next out s xs) k e ≡ out (state_after next s (take k xs)) (get_or xs k d)
  pub count : (s : S) (xs : List X) → count_after next test s xs ≤ length xs

-- "The rounding facts are shown once for any width": rounding depends on the fraction alone, keeps what fits, and keeps order; and a state of 1 that moves towards 1 stays 1
pub record Rounding (f : Format) : Type 0 where
  pub fraction_alone : (s : Bool) (a b c d : ℕ) → 0 < b → 0 < d → a * d ≡ c * b → round f s a b ≡ round f s c d
  pub keeps_what_fits : (s : Bool) (m : ℕ) (e : ℤ) → T (fits f (fin s m e)) → round f s (m * up e) (down e) ≡ fin s m e
  pub keeps_order : (a b c d : ℕ) → 0 < b → 0 < d → a * d ≤ c * b → T (le (round f false a b) (round f false c d))
  pub stays_at_one : (c : Float) → T (fits f c) → T (le nought c) → T (le c one) → fma f c one (mul f (sub f one c) one) ≡ one
