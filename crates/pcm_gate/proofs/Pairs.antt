-- The loop that runs a stage over bytes, two at a time: what holds after k pairs of them holds at the start, is kept by a turn, and says at the end that all is done. For any stage over words.
-- Assumes nothing.
use mathlib.Core.Path.{◌≡◌, refl, sym, ◌∙◌}
use mathlib.Core.List.{List, [], ◌∷◌, ◌++◌, append_assoc}
use Prim.Native.Nat.{ℕ, zero, suc, ◌+◌, ◌*◌, ◌/◌, ◌%◌, ◌≤◌, ◌<◌}
use native.Mathlib.Numerals.{add-one}
use native.Mathlib.Omega.{arith}
use lib.ListN.{length, take, drop, get_or, set, length-set, take-append-drop, drop_of_length-le}
use lib.Seq.{drop-cons, take-suc-set, drop-set-lt}
use Rattle.std.specs.Int.{w16, from_le_bytes}
use Rattle.std.specs.Simd.{first_chunks}
use Rattle.answer.specs.Buffers.{over}
use Rattle.fold.specs.Fold.{state_after, out_after}
use Rattle.pcm_gate.specs.Bytes.{words_of, bytes_of}

-- ---- the words of a list of bytes are those of its pairs
half : (n : ℕ) → suc (suc n) / 2 ≡ suc (n / 2)
half n = omega arith

pub words-long : (l : List ℕ) → length (words_of l) ≡ length l / 2
unfolding words_of
words-long [] = refl
words-long (a ∷ []) = refl
words-long (a ∷ b ∷ l) = rw (half (length l), words-long l)

pub word-at : (l : List ℕ) (k : ℕ) → k < length l / 2 → get_or (words_of l) k 0 ≡ from_le_bytes w16 (get_or (first_chunks 2 (length l / 2) l) k [])
unfolding words_of
word-at [] k h = absurd (omega arith)
word-at (a ∷ []) k h = absurd (omega arith)
word-at (a ∷ b ∷ l) zero h = rw (half (length l)) refl
word-at (a ∷ b ∷ l) (suc k) h = rw (half (length l)) (word-at l k (omega arith))

-- ---- two bytes stored from i on
two-on : (i : ℕ) → i + 2 ≡ suc (suc i)
two-on i = omega arith

drop-two : (l : List ℕ) (i : ℕ) → i + 1 < length l → drop i l ≡ get_or l i 0 ∷ get_or l (i + 1) 0 ∷ drop (i + 2) l
drop-two l i h = rw (drop-cons l i 0 (omega arith), drop-cons l (suc i) 0 (omega arith), add-one i, two-on i)

module _ (l : List ℕ) (i a b : ℕ) (h : i + 1 < length l) where
  abbrev stored : List ℕ
  stored = set (set l i a) (i + 1) b

  take-stored : take (i + 2) stored ≡ take i l ++ (a ∷ b ∷ [])
  take-stored =
      let k : suc i < length (set l i a) = rw (length-set l i a) (omega arith) in
      rw (two-on i, add-one i, take-suc-set (set l i a) (suc i) b k, take-suc-set l i a (omega arith), append_assoc)

  drop-stored : drop (i + 2) stored ≡ drop (i + 2) l
  drop-stored = drop-set-lt (i + 2) (set l i a) (i + 1) b (omega arith) ∙ drop-set-lt (i + 2) l i a (omega arith)

module _ {S : Type 0} (next : S → ℕ → S) (out : S → ℕ → ℕ) where
  -- after k of the words the state is s and the bytes of what they give are written: what is left of them does the rest
  pub record Upto (s₀ : S) (words bytes₀ : List ℕ) (s : S) (bytes : List ℕ) (k : ℕ) : Type 0 where
    pub long : length bytes ≡ length bytes₀
    pub state : state_after next s (drop k words) ≡ state_after next s₀ words
    pub outs : take (2 * k) bytes ++ over (bytes_of (out_after next out s (drop k words))) (drop (2 * k) bytes) ≡ over (bytes_of (out_after next out s₀ words)) bytes₀

  pub start : (s : S) (words bytes : List ℕ) → Upto s words bytes s bytes 0
  start s words bytes = record { long = refl; state = refl; outs = refl }

  module _ {s₀ : S} {words bytes₀ : List ℕ} {s : S} {bytes : List ℕ} {k : ℕ} (u : Upto s₀ words bytes₀ s bytes k) where
    pub onward : (t : S) (low high : ℕ) → k < length words → 2 * k + 1 < length bytes
        → t ≡ next s (get_or words k 0)
        → low ≡ out s (get_or words k 0) % 0x100
        → high ≡ out s (get_or words k 0) / 0x100
        → Upto s₀ words bytes₀ t (set (set bytes (2 * k) low) (2 * k + 1) high) (k + 1)
    unfolding state_after out_after bytes_of
    onward t low high h room et el eh =
        let w = drop-cons words k 0 h in
        let i : 2 * (k + 1) ≡ 2 * k + 2 = omega arith in
        record {
          long = length-set (set bytes (2 * k) low) (2 * k + 1) high ∙ length-set bytes (2 * k) low ∙ u.long;
          state = rw (et, add-one k) (rw w at u.state);
          outs = rw (i, take-stored bytes (2 * k) low high room, drop-stored bytes (2 * k) low high room, append_assoc, et, el, eh, add-one k) (rw (w, drop-two bytes (2 * k) room) at u.outs);
        }

    pub ended : length words ≤ k → (s ≡ state_after next s₀ words) × (bytes ≡ over (bytes_of (out_after next out s₀ words)) bytes₀)
    unfolding state_after out_after bytes_of
    ended h =
        let none = drop_of_length-le words h in
        (rw none at u.state, sym (take-append-drop (2 * k) bytes) ∙ rw none at u.outs)
