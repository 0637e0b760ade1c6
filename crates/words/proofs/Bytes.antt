-- Numbers by their bytes, the lowest first: looked for inside the list, read behind a place, written and read, read and written.
-- Assumes nothing.
use Prim.Native.Nat.{ℕ, ◌+◌, ◌*◌, ◌/◌, ◌%◌, ◌≤◌, ◌<◌}
use native.Mathlib.Nat.{add_assoc}
use native.Mathlib.Numerals.{add-one}
use native.Mathlib.Omega.{arith}
use mathlib.Core.Path.{◌≡◌, ◌∙◌, ap}
use mathlib.Core.List.{List, ◌∷◌, ◌++◌}
use lib.ListN.{length, drop, get_or}
use lib.Seq.{get_or-drop, drop-cons}
use borrow.Author.Tests.{le-leb}
use Rattle.words.specs.Words.{word16, word32, word16_at, word32_at, put32, put32_at, le16, le32}

-- ---- where all of its bytes lie in the list, the word that is looked for is the word there, and one that is to be written is written
module _ (s : List ℕ) (at : ℕ) where
  pub inside16 : at + 2 ≤ length s → word16_at s at ≡ word16 s at
  unfolding word16_at
  inside16 h = rw (le-leb (at + 2) (length s) h)

  pub inside32 : at + 4 ≤ length s → word32_at s at ≡ word32 s at
  unfolding word32_at
  inside32 h = rw (le-leb (at + 4) (length s) h)

  pub put-inside32 : (n : ℕ) → at + 4 ≤ length s → put32_at s at n ≡ put32 s at n
  unfolding put32_at
  put-inside32 n h = rw (le-leb (at + 4) (length s) h)

-- ---- behind a place
module _ (s : List ℕ) (a : ℕ) where
  pub word16-drop : (k : ℕ) → word16 (drop a s) k ≡ word16 s (a + k)
  unfolding word16
  word16-drop k = rw (get_or-drop a s k 0, get_or-drop a s (k + 1) 0, add_assoc a k 1)

  pub word32-drop : (k : ℕ) → word32 (drop a s) k ≡ word32 s (a + k)
  unfolding word32
  word32-drop k = rw (word16-drop k, word16-drop (k + 2), add_assoc a k 2)

-- ---- written, then read
pub word32-le32 : (n : ℕ) (r : List ℕ) → word32 (le32 n ++ r) 0 ≡ n
unfolding word32 word16
word32-le32 n r = omega arith

-- ---- read, then written
module _ (s : List ℕ) (small : (i : ℕ) → get_or s i 0 < 0x100) where
  one : (k : ℕ) → k + 1 ≤ length s → drop k s ≡ get_or s k 0 ∷ drop (k + 1) s
  one k h = rw (add-one, drop-cons s k 0 (omega (arith, h)))

  pub le16-word16 : (k : ℕ) → k + 2 ≤ length s → drop k s ≡ le16 (word16 s k) ++ drop (k + 2) s
  unfolding word16
  le16-word16 k h =
      let a = one k (omega (arith, h)) in
      let b = one (k + 1) (omega (arith, h)) in
      let c = add_assoc k 1 1 in
      let p : get_or s k 0 ≡ (get_or s k 0 + get_or s (k + 1) 0 * 0x100) % 0x100 = omega (arith, small k, small (k + 1)) in
      let q : get_or s (k + 1) 0 ≡ (get_or s k 0 + get_or s (k + 1) 0 * 0x100) / 0x100 = omega (arith, small k, small (k + 1)) in
      a ∙ ap (◌∷◌ (get_or s k 0)) (b ∙ ap (λ (j : ℕ). get_or s (k + 1) 0 ∷ drop j s) c) ∙ cc

  small16 : (k : ℕ) → word16 s k < 0x1_0000
  unfolding word16
  small16 k = omega (arith, small k, small (k + 1))

  pub small32 : (k : ℕ) → word32 s k < 0x1_0000_0000
  unfolding word32
  small32 k = omega (arith, small16 k, small16 (k + 2))

  pub le32-word32 : (k : ℕ) → k + 4 ≤ length s → drop k s ≡ le32 (word32 s k) ++ drop (k + 4) s
  unfolding word32
  le32-word32 k h =
      let a = le16-word16 k (omega (arith, h)) in
      let b = le16-word16 (k + 2) (omega (arith, h)) in
      let c = add_assoc k 2 2 in
      let p : word16 s k ≡ (word16 s k + word16 s (k + 2) * 0x1_0000) % 0x1_0000 = omega (arith, small16 k, small16 (k + 2)) in
      let q : word16 s (k + 2) ≡ (word16 s k + word16 s (k + 2) * 0x1_0000) / 0x1_0000 = omega (arith, small16 k, small16 (k + 2)) in
      a ∙ ap (λ (l : List ℕ). le16 (word16 s k) ++ l) (b ∙ ap (λ (j : ℕ). le16 (word16 s (k + 2)) ++ drop j s) c) ∙ ap (λ (n : ℕ). le16 n ++ (le16 (word16 s (k + 2)) ++ drop (k + 4) s)) p ∙ ap (λ (n : ℕ). le16 ((word16 s k + word16 s (k + 2) * 0x1_0000) % 0x1_0000) ++ (le16 n ++ drop (k + 4) s)) q
