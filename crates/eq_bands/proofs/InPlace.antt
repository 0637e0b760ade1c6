-- A loop that replaces a buffer's elements one after the other: those ahead of it are as they came.
-- Assumes nothing.
use Prim.Native.Nat.{ℕ, suc, ◌+◌, ◌<◌}
use native.Mathlib.Nat.{le_refl}
use native.Mathlib.Numerals.{add-one}
use mathlib.Core.Path.{◌≡◌, sym, ◌∙◌}
use mathlib.Core.List.{List, ◌∷◌}
use lib.ListN.{length, drop, get_or, set}
use lib.Seq.{drop-cons, drop-set-lt}

pub record Ahead {X : Type 0} (came buffer : List X) (i : ℕ) : Type 0 where
  pub same : drop i buffer ≡ drop i came

module _ {X : Type 0} {came buffer : List X} {i : ℕ} (a : Ahead came buffer i) (d : X) (hb : i < length buffer) (hc : i < length came) where
  parts : (get_or buffer i d ∷ drop (suc i) buffer) ≡ (get_or came i d ∷ drop (suc i) came)
  parts = sym (drop-cons buffer i d hb) ∙ a.same ∙ drop-cons came i d hc

  pub read : get_or buffer i d ≡ get_or came i d
  read = let p = parts in cc

  pub onward : (y : X) → Ahead came (set buffer i y) (i + 1)
  onward y = let p = parts in let q : drop (suc i) buffer ≡ drop (suc i) came = cc in record { same = rw (add-one i, drop-set-lt (suc i) buffer i y (le_refl (suc i)), q) }
