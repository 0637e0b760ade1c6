-- Bytes cut at an even place: what they leave, give and count is what their parts do, one after the other.
-- Assumes nothing.
use mathlib.Core.Path.{◌≡◌, refl, ap, ◌∙◌}
use mathlib.Core.List.{List, [], ◌∷◌, ◌++◌}
use Prim.Native.Nat.{ℕ, ◌+◌, ◌*◌, ◌/◌, ◌%◌}
use native.Mathlib.Omega.{arith}
use lib.ListN.{length}
use Rattle.answer.specs.Buffers.{over}
use Rattle.fold.proofs.Parts.{state-parts, out-parts, count-parts, out-length}
use Rattle.noise_gate_settings.specs.declared.Settings.{Settings}
use Rattle.noise_gate_sample.specs.declared.Registers.{Registers}
use Rattle.pcm_gate.specs.Bytes.{words_of, bytes_of}
use Rattle.pcm_gate.specs.Pass.{next, output, aim, after, outputs, open_count}

-- ---- words and bytes
words-parts : (xs ys : List ℕ) → length xs % 2 ≡ 0 → words_of (xs ++ ys) ≡ words_of xs ++ words_of ys
unfolding words_of
words-parts [] ys h = refl
words-parts (a ∷ []) ys h = absurd (omega arith)
words-parts (a ∷ b ∷ xs) ys h = ap (λ (l : List ℕ). (a + b * 0x100) ∷ l) (words-parts xs ys (omega arith))

bytes-parts : (us vs : List ℕ) → bytes_of (us ++ vs) ≡ bytes_of us ++ bytes_of vs
unfolding bytes_of
bytes-parts [] vs = refl
bytes-parts (u ∷ us) vs = ap (λ (l : List ℕ). u % 0x100 ∷ u / 0x100 ∷ l) (bytes-parts us vs)

words-length : (xs : List ℕ) → length (words_of xs) ≡ length xs / 2
unfolding words_of
words-length [] = refl
words-length (a ∷ []) = refl
words-length (a ∷ b ∷ xs) = omega (arith, words-length xs)

bytes-length : (us : List ℕ) → length (bytes_of us) ≡ length us * 2
unfolding bytes_of
bytes-length [] = refl
bytes-length (u ∷ us) = omega (arith, bytes-length us)

pub over-parts : (xs ys ox oy : List ℕ) → length xs ≡ length ox → over (xs ++ ys) (ox ++ oy) ≡ over xs ox ++ over ys oy
over-parts [] ys [] oy h = refl
over-parts [] ys (o ∷ ox) oy h = absurd (omega arith)
over-parts (x ∷ xs) ys [] oy h = absurd (omega arith)
over-parts (x ∷ xs) ys (o ∷ ox) oy h = ap (λ (l : List ℕ). x ∷ l) (over-parts xs ys ox oy (omega arith))

pub outputs-length : (s : Settings) (m : Registers) (xs : List ℕ) → length (outputs s m xs) ≡ length xs / 2 * 2
outputs-length s m xs = bytes-length _ ∙ rw (out-length (next s) (output s) m (words_of xs), words-length xs)

-- ---- what is left, given and counted
module _ (s : Settings) (m : Registers) (xs ys : List ℕ) (even : length xs % 2 ≡ 0) where
  pub after-parts : after s m (xs ++ ys) ≡ after s (after s m xs) ys
  after-parts = rw (words-parts xs ys even) (state-parts (next s) m (words_of xs) (words_of ys))

  pub outputs-parts : outputs s m (xs ++ ys) ≡ outputs s m xs ++ outputs s (after s m xs) ys
  outputs-parts = rw (words-parts xs ys even, out-parts (next s) (output s) m (words_of xs) (words_of ys)) (bytes-parts _ _)

  pub counts-parts : open_count s m (xs ++ ys) ≡ open_count s m xs + open_count s (after s m xs) ys
  counts-parts = rw (words-parts xs ys even) (count-parts (next s) (aim s) m (words_of xs) (words_of ys))
