-- std's bytes of a word, from a place on in a list, are those of the definitions.
-- Assumes nothing.
use Prim.Native.Nat.{ℕ, zero, suc, ◌+◌, ◌≤◌, ◌<◌}
use native.Mathlib.Nat.{suc-add, add-zero, add_assoc}
use native.Mathlib.Omega.{arith}
use mathlib.Core.Path.{◌≡◌, refl, ◌∙◌, ap}
use mathlib.Core.List.{List, [], ◌∷◌, ◌++◌}
use lib.ListN.{length, take, drop, get_or, set}
use lib.Seq.{get_or-take, get_or-drop}
use Rattle.std.specs.Int.{w16, w32, from_le_bytes}
use Rattle.words.specs.Words.{word16, word32}

-- ---- read
module _ (s : List ℕ) (at : ℕ) where
  byte : (n i : ℕ) → i < n → get_or (take n (drop at s)) i 0 ≡ get_or s (at + i) 0
  byte n i h = get_or-take n (drop at s) i 0 h ∙ get_or-drop at s i 0

  pub two : from_le_bytes w16 (take 2 (drop at s)) ≡ word16 s at
  unfolding word16
  two = rw (byte 2 0 (omega arith), byte 2 1 (omega arith), add-zero at)

  pub four : from_le_bytes w32 (take 4 (drop at s)) ≡ word32 s at
  unfolding word32 word16
  four = rw (byte 4 0 (omega arith), byte 4 1 (omega arith), byte 4 2 (omega arith), byte 4 3 (omega arith), add-zero at, add_assoc at 2 1) (omega arith)

-- ---- written
pub over_two : (s : List ℕ) (at a b : ℕ) → at + 2 ≤ length s → set (set s at a) (at + 1) b ≡ take at s ++ (a ∷ b ∷ drop (at + 2) s)
over_two (x ∷ y ∷ s) zero a b h = refl
over_two (x ∷ s) (suc k) a b h = rw (suc-add k 1, suc-add k 2) (ap (λ (l : List ℕ). x ∷ l) (over_two s k a b (omega (arith, h))))
over_two [] at a b h = absurd (omega (arith, h))
over_two (x ∷ []) zero a b h = absurd (omega (arith, h))

pub over_four : (s : List ℕ) (at a b c d : ℕ) → at + 4 ≤ length s → set (set (set (set s at a) (at + 1) b) (at + 2) c) (at + 2 + 1) d ≡ take at s ++ (a ∷ b ∷ c ∷ d ∷ drop (at + 4) s)
over_four (w ∷ x ∷ y ∷ z ∷ s) zero a b c d h = refl
over_four (x ∷ s) (suc k) a b c d h = rw (suc-add k 1, suc-add k 2, suc-add k 4, suc-add (k + 2) 1) (ap (λ (l : List ℕ). x ∷ l) (over_four s k a b c d (omega (arith, h))))
over_four [] at a b c d h = absurd (omega (arith, h))
over_four (w ∷ []) zero a b c d h = absurd (omega (arith, h))
over_four (w ∷ x ∷ []) zero a b c d h = absurd (omega (arith, h))
over_four (w ∷ x ∷ y ∷ []) zero a b c d h = absurd (omega (arith, h))
