-- What the head alone promises: with the samples behind it, it is the file that is written whole, and is read back; and what it tells and leaves. Statements only.
-- Assumes nothing.
use Rattle.std.specs.Prelude.{ℕ, ◌+◌, ◌%◌, ◌≤◌, ◌<◌, ◌^◌, ◌≡◌, List, ◌++◌, length, take, drop}
use Rattle.answer.specs.Buffers.{over}
use Rattle.answer.specs.Figures.{lowest_rate, highest_rate}
use Rattle.wave.specs.Recordings.{Reads}
use Rattle.wave_write.specs.Answers.{done}
use Rattle.wave_write.specs.Writing.{head, file, write_head}

-- how many bytes of samples can have a head, and where: any even number whose RIFF size fits in 32 bits
pub record Headed (rate size : ℕ) (out : List ℕ) : Type 0 where
  pub lowest : lowest_rate ≤ rate
  pub highest : rate ≤ highest_rate
  pub even : size % 2 ≡ 0
  pub fits : 36 + size < 2 ^ 32
  pub room : 44 ≤ length out

pub record Streaming : Type 0 where
  -- all of these are written, and nothing else is
  pub all : (rate size : ℕ) (out : List ℕ) → Headed rate size out → write_head rate size out ≡ (done 44, over (head rate size) out)
  pub nothing_else : (rate size : ℕ) (out : List ℕ) → (write_head rate size out).0.number ≡ 0 → Headed rate size out
  -- a refusal tells the length 0 and leaves the output; behind the 44 bytes it always stays
  pub zero : (rate size : ℕ) (out : List ℕ) → ((write_head rate size out).0.number ≡ 0 → ⊥) → (write_head rate size out).0.length ≡ 0
  pub unchanged : (rate size : ℕ) (out : List ℕ) → ((write_head rate size out).0.number ≡ 0 → ⊥) → (write_head rate size out).1 ≡ out
  pub past : (rate size : ℕ) (out : List ℕ) → drop 44 (write_head rate size out).1 ≡ drop 44 out
  -- head and samples, one after the other, are the file; it is read, whatever lies behind it
  pub whole : (rate : ℕ) (samples out : List ℕ) → (write_head rate (length samples) out).0.number ≡ 0 → take 44 (write_head rate (length samples) out).1 ++ samples ≡ file rate samples
  pub found : (rate : ℕ) (samples out rest : List ℕ) → (write_head rate (length samples) out).0.number ≡ 0 → Reads (file rate samples ++ rest) rate 44 (length samples)
