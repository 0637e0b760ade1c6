-- What every stage uses keeps what the page `Shared` promises.
-- Assumes nothing.
use mathlib.Core.Path.{◌≡◌, subst}
use mathlib.Core.Bool.{Bool, true}
use mathlib.Core.List.{List}
use Prim.Native.Nat.{ℕ}
use lib.Ieee.{Format}
use Rattle.rounding.proofs.Laws as laws
use Rattle.rounding.proofs.Smoothing as smoothing
use Rattle.answer.specs.Names.{same}
use Rattle.answer.proofs.Samples.{at_first, before-first, first-most}
use Rattle.answer.proofs.Names.{same_self, same-equal}
use Rattle.fold.proofs.Parts.{out_at, count_most}
use Rattle.promises.specs.Shared.{FirstRefused, Names, Blocks, Rounding}

pub first-refused : FirstRefused
first-refused = record { there = at_first; before = before-first; most = first-most }

pub names : Names
names = record { equal = λ a b. (same-equal a b, λ (e : a ≡ b). subst (λ (l : List ℕ). same a l ≡ true) e (same_self a)) }

pub blocks : {S X Y : Type 0} (next : S → X → S) (out : S → X → Y) (test : S → X → Bool) → Blocks next out test
blocks next out test = record { each = out_at next out; count = count_most next test }

pub rounding : (f : Format) → Rounding f
rounding f = record {
  fraction_alone = laws.fraction_alone f;
  keeps_what_fits = laws.keeps_what_fits f;
  keeps_order = laws.keeps_order f;
  stays_at_one = λ c fit above below. smoothing.stays_at_one f c (record { fit = fit; above = above; below = below });
}
