-- The gate's step over signed 16-bit samples, read and written as by the program: any number of them, 9, then 7. Definitions only.
-- Assumes nothing.
use Rattle.std.specs.Prelude.{ℕ, Bool, List, eqb, length}
use Rattle.answer.specs.Buffers.{over}
use Rattle.answer.specs.Told.{Told, refused, done_passed, unless}
use Rattle.answer.specs.declared.Refusal.TheVariants.{LengthsDiffer, BadState}
use Rattle.fold.specs.Fold.{state_after, out_after, count_after}
use Rattle.pcm.specs.Samples.{sample_of, word_of, heard, written}
use Rattle.noise_gate_sample.specs.Step as Step
use Rattle.noise_gate_settings.specs.declared.Settings.{Settings}
use Rattle.noise_gate_sample.specs.declared.Registers.{Registers}
use Rattle.noise_gate.specs.Bounds.{acceptable}
use Rattle.noise_gate.specs.Calls.{gate_of}
use Rattle.noise_gate.specs.declared.Gate.{Gate}
use Rattle.pcm_gate.specs.Bytes.{words_of, bytes_of}

-- one sample, as a word
module _ (s : Settings) (m : Registers) (w : ℕ) where
  unfoldable pub next : Registers
  next = Step.next s m (heard (sample_of w))

  unfoldable pub output : ℕ
  output = word_of (written (Step.output s m (heard (sample_of w))))

  unfoldable pub aim : Bool
  aim = Step.aim s m (heard (sample_of w))

-- the samples of a list of bytes, one after the other: what they leave, the bytes that they give, and how many of them are aimed open
module _ (s : Settings) (m : Registers) (input : List ℕ) where
  abbrev pub after : Registers
  after = state_after (next s) m (words_of input)

  abbrev pub outputs : List ℕ
  outputs = bytes_of (out_after (next s) (output s) m (words_of input))

  abbrev pub open_count : ℕ
  open_count = count_after (next s) (aim s) m (words_of input)

  -- what is told of them, the quiet count after the last with it
  abbrev pub ran : Told Gate
  ran = done_passed (gate_of s after) open_count after.quiet

-- what is told, and what the buffer for the output holds afterwards; a last odd byte of it stays as it was
unfoldable pub pass : Gate → List ℕ → List ℕ → Told Gate × List ℕ
pass g input out =
    unless (acceptable g) (refused g BadState, out)
    (unless (eqb (length input) (length out)) (refused g LengthsDiffer, out)
    (ran g.settings g.registers input, over (outputs g.settings g.registers input) out))
