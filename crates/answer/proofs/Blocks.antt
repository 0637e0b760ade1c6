-- A block that is accepted: the lengths agree, it is no longer than the longest, and none of its samples is refused.
-- Assumes nothing.
use Rattle.std.specs.Prelude.{Result, Ok, Err, ⊤}
use mathlib.Core.Path.{◌≡◌, refl}
use mathlib.Core.Bool.{Bool, true, false}
use mathlib.Core.List.{List}
use Prim.Native.Nat.{ℕ, ◌≤◌, ◌<◌}
use native.Mathlib.Nat.{lt_of_lt_of_le}
use native.Mathlib.Omega.{arith}
use lib.Dec.{eqb, leb}
use lib.ListN.{length, get_or}
use lib.Ieee.{Float}
use borrow.Author.Tests.{eqb-true, leb-true}
use Rattle.answer.specs.Figures.{longest_block}
use Rattle.answer.specs.Checks.{is_refused, first_refused, check_block}
use Rattle.answer.specs.declared.Refusal.{Refusal}
use Rattle.answer.proofs.Samples.{before-first}

pub record Block (samples : List Float) (places : ℕ) : Type 0 where
  pub agree : length samples ≡ places
  pub few : length samples ≤ longest_block
  pub none-refused : (k : ℕ) (d : Float) → k < length samples → is_refused (get_or samples k d) ≡ false

refuted : {r : Refusal} → ◌≡◌ {A = Result ⊤ Refusal} (Err r) (Ok tt) → ⊥
refuted e = let z : ◌≡◌ {A = ℕ} 0 1 = cc in omega arith

pub accepted : (samples : List Float) (places : ℕ) → check_block samples places ≡ (Ok tt) → Block samples places
unfolding check_block
accepted samples places e = go (eqb (length samples) places) (leb (length samples) longest_block) (leb (length samples) (first_refused samples)) refl refl refl
  where
    go : (a b c : Bool) → eqb (length samples) places ≡ a → leb (length samples) longest_block ≡ b → leb (length samples) (first_refused samples) ≡ c → Block samples places
    go true true true p q r = record {
      agree = eqb-true (length samples) places p;
      few = leb-true (length samples) longest_block q;
      none-refused = λ k d h. before-first samples k d (lt_of_lt_of_le h (leb-true (length samples) (first_refused samples) r));
    }
    go true true false p q r = absurd (refuted (simp (p, q, r) at e))
    go true false true p q r = absurd (refuted (simp (p, q, r) at e))
    go true false false p q r = absurd (refuted (simp (p, q, r) at e))
    go false true true p q r = absurd (refuted (simp (p, q, r) at e))
    go false true false p q r = absurd (refuted (simp (p, q, r) at e))
    go false false true p q r = absurd (refuted (simp (p, q, r) at e))
    go false false false p q r = absurd (refuted (simp (p, q, r) at e))
