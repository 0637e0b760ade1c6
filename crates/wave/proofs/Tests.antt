-- What a step that led on, or that met `data`, says of its tests; and that a recording has twelve bytes at the least.
-- Assumes nothing.
use Prim.Native.Nat.{ℕ, ◌+◌, ◌≤◌}
use mathlib.Core.Path.{◌≡◌, refl}
use mathlib.Core.Bool.{Bool, true, false, ◌&&◌, cond}
use mathlib.Core.List.{List}
use lib.Dec.{eqb, leb}
use Rattle.std.specs.Prelude.{Option}
use lib.ListN.{length}
use Rattle.std.proofs.lemmas.Bool.{and_parts}
use borrow.Author.Tests.{leb-true}
use Rattle.answer.specs.Told.{unless}
use Rattle.words.specs.Words.{word32}
use Rattle.wave.specs.Reading.{Met, Data, Stops, Step, Ends, On, is_rate, is_format, is_first_format, size_at, behind, format_step, is_wave}
use Rattle.wave.proofs.Cases.{others}

pub long : (s : List ℕ) → is_wave s ≡ true → 12 ≤ length s
unfolding is_wave
long s h = leb-true _ _ (and_parts (leb 12 (length s)) _ h).0

-- ---- a step that led on
pub passed : (t : Bool) (m : Met) (x : Step) {n : ℕ} {k : Option ℕ} → unless t (Ends m) x ≡ On n k → (t ≡ true) × (x ≡ On n k)
passed true m x h = (refl, h)
passed false m x h = cc

-- ---- a step that met `data`
module _ {to : ℕ} {last : Option ℕ} where
  pub kept : (t : Bool) (n : ℕ) (x : Step) → unless t (Ends (Stops n)) x ≡ Ends (Data to last) → (t ≡ true) × (x ≡ Ends (Data to last))
  kept true n x h = (refl, h)
  kept false n x h = cc

  not-format : (s : List ℕ) (place size next : ℕ) → format_step s place size next ≡ Ends (Data to last) → ⊥
  unfolding format_step
  not-format s place size next h =
      let a = kept (eqb size 16 && is_format s place) 13 _ h in
      let b = kept (is_rate (word32 s (place + 4))) 5 _ a.1 in
      let e = b.1 in cc

  not-skipped : (t : Bool) (s : List ℕ) (place size next : ℕ) (rate : Option ℕ) → cond t (format_step s place size next) (On next rate) ≡ Ends (Data to last) → ⊥
  not-skipped true s place size next rate h = not-format s place size next h
  not-skipped false s place size next rate h = cc

  pub not-other : (s : List ℕ) (end at : ℕ) (rate : Option ℕ) → others s end at rate ≡ Ends (Data to last) → ⊥
  not-other s end at rate h = not-skipped (is_first_format s at rate) s (at + 8) (size_at s at) (behind s at) rate (kept (leb (behind s at) end) 11 _ h).1
