-- What the gate over signed 16-bit samples promises, and document 01's program over it. Statements only.
-- Assumes nothing.
use Rattle.std.specs.Prelude.{◌≡◌, List, [], ◌∷◌, ◌++◌, ℕ, ◌+◌, ◌*◌, ◌/◌, ◌%◌, ◌<◌, T, length, take, Float}
use Rattle.answer.specs.Buffers.{over}
use Rattle.answer.specs.Figures.{one}
use Rattle.answer.specs.Told.{Told, done_passed}
use Rattle.answer.specs.Blocks.{BlockUnchanged}
use Rattle.noise_gate.specs.Bounds.{acceptable}
use Rattle.noise_gate.specs.declared.Gate.{Gate}
use Rattle.silence.specs.History.{all_f32, SettingsF32}
use Rattle.pcm.specs.Samples.{sample_of, word_of, heard, written}
use Rattle.pcm_gate.specs.Pass.{open_count, pass}
use Rattle.pcm_gate.specs.Program.{program_gate, program}
use Rattle.pcm_gate.specs.Turns.{begun, wrapped, told_of, given, joined, after, ended, given_all, Even, Full}
use Rattle.words.specs.Words.{Bytes}

-- "No refusal changes a state or an output buffer."
pub record Refusals : Type 0 where
  pub passing : (g : Gate) (input out : List ℕ) → BlockUnchanged g out (pass g input out)

-- ---- bytes cut at an even place
-- a gate that 9 accepts, its numbers f32s
abbrev pub Sound : Gate → Type 0
Sound g = T (acceptable g) × SettingsF32 g.settings × T (all_f32 (g.registers.level ∷ g.registers.state ∷ []))

-- two calls, one after the other, and what they tell together
abbrev pub cut_in_two : Gate → List ℕ → List ℕ → List ℕ → List ℕ → Told Gate × List ℕ
cut_in_two g xs ys ox oy =
    let first = pass g xs ox in
    let second = pass first.0.state ys oy in
    (done_passed second.0.state (first.0.count + second.0.count) second.0.quiet, first.1 ++ second.1)

-- the same bytes, gate, count and quiet count as in one call, and the gate that a call leaves is one that 9 accepts
pub record EvenCut : Type 0 where
  pub in_two : (g : Gate) → Sound g → (xs ys ox oy : List ℕ) → length xs % 2 ≡ 0 → length xs ≡ length ox → length ys ≡ length oy
      → pass g (xs ++ ys) (ox ++ oy) ≡ cut_in_two g xs ys ox oy
  pub accepted : (g : Gate) → Sound g → (input out : List ℕ) → T (acceptable (pass g input out).0.state)

-- ---- the program's input in blocks, each but the last of an even number of bytes
-- the whole samples that the blocks give, one block after the other, are the program's bytes; the two counts are those of the whole input, in 64 bits; no block is refused; what a buffer held before is in none of the whole samples. The program's own blocks are full, so they are such
pub record InBlocks : Type 0 where
  pub bytes : (blocks : List (List ℕ)) (last : List ℕ) → Even blocks → given_all begun blocks last ≡ program (joined blocks last)
  pub samples : (blocks : List (List ℕ)) (last : List ℕ) → Even blocks → (ended blocks last).samples ≡ wrapped (length (joined blocks last) / 2)
  pub aimed : (blocks : List (List ℕ)) (last : List ℕ) → Even blocks → (ended blocks last).aimed ≡ wrapped (open_count program_gate.settings program_gate.registers (joined blocks last))
  pub done : (blocks : List (List ℕ)) (last : List ℕ) → (told_of (after begun blocks) last).number ≡ 0
  pub whole : (blocks : List (List ℕ)) (last out : List ℕ) → length last ≡ length out → take (length last / 2 * 2) (pass (after begun blocks).gate last out).1 ≡ given (after begun blocks) last
  pub even : (blocks : List (List ℕ)) → Full blocks → Even blocks

-- ---- a recording comes back as it was
pub record AsItWas : Type 0 where
  -- "every 16-bit sample read and written unchanged is itself"
  pub sample : (w : ℕ) → w < 0x1_0000 → word_of (written (heard (sample_of w))) ≡ w
  -- the word of what is written stands for it, whatever the number: none is wrapped
  pub unwrapped : (x : Float) → sample_of (word_of (written x)) ≡ written x
  -- "A gate at ratio 1 should hand back the recording it got": whatever its other settings, its registers and the buffer, the whole samples of the input; a last odd byte of the buffer stays as it was
  pub recording : (g : Gate) → Sound g → g.settings.ratio ≡ one → (input out : List ℕ) → Bytes input → length input ≡ length out
      → (pass g input out).1 ≡ over (take (length input / 2 * 2) input) out
