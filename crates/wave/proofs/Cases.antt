-- What the definition says of the chunk at a place, case by case, whatever each test is.
-- Assumes nothing.
use Prim.Native.Nat.{ℕ, ◌+◌, ◌≤◌}
use native.Mathlib.Omega.{arith}
use mathlib.Core.Path.{◌≡◌}
use mathlib.Core.Bool.{true, false, cond}
use mathlib.Core.List.{List}
use lib.Dec.{leb}
use Rattle.std.specs.Prelude.{Option}
use borrow.Author.Tests.{lt-ltb, le-leb}
use Rattle.answer.specs.Told.{unless}
use Rattle.wave.specs.Reading.{Data, Stops, Step, Ends, On, is_data, is_first_format, size_at, behind, format_step, step}

module _ (s : List ℕ) (end at : ℕ) (rate : Option ℕ) where
  -- what is done with a chunk that is not `data`
  abbrev pub others : Step
  others = unless (leb (behind s at) end) (Ends (Stops 11)) (cond (is_first_format s at rate) (format_step s (at + 8) (size_at s at) (behind s at)) (On (behind s at) rate))

  module _ (h : at + 8 ≤ end) where
    pub data-here : is_data s at ≡ true → step s end at rate ≡ Ends (Data at rate)
    unfolding step
    data-here d = rw (lt-ltb at end (omega arith), le-leb _ _ h, d)

    pub first-format : is_data s at ≡ false → behind s at ≤ end → is_first_format s at rate ≡ true → step s end at rate ≡ format_step s (at + 8) (size_at s at) (behind s at)
    unfolding step
    first-format d l f = rw (lt-ltb at end (omega arith), le-leb _ _ h, d, le-leb _ _ l, f)

    pub passed_over : is_data s at ≡ false → behind s at ≤ end → is_first_format s at rate ≡ false → step s end at rate ≡ On (behind s at) rate
    unfolding step
    passed_over d l f = rw (lt-ltb at end (omega arith), le-leb _ _ h, d, le-leb _ _ l, f)
