-- What writing promises, beyond the equation of `write`: what it tells and leaves, what is written, and the way to the reader and back. Statements only.
-- Assumes nothing.
use Rattle.std.specs.Prelude.{ℕ, ◌+◌, ◌%◌, ◌≤◌, ◌<◌, ◌≡◌, List, [], ◌++◌, ◌⊎◌, Result, length, take, drop}
use Rattle.answer.specs.Buffers.{over}
use Rattle.answer.specs.Figures.{lowest_rate, highest_rate}
use Rattle.words.specs.Words.{Bytes, put32}
use Rattle.wave.specs.Grammar as Grammar
use Rattle.wave.specs.Reading.{riff_size}
use Rattle.wave.specs.Recordings.{Reads}
use Rattle.wave_write.specs.Answers.{done, refused, told}
use Rattle.wave_write.specs.Writing.{longest_data, file, write}
use Rattle.wave_write.specs.declared.Fault.{Fault}

-- a refusal tells the length 0; and what is told says which answer it was
pub record Tells : Type 0 where
  pub zero : (rate : ℕ) (samples out : List ℕ) → ((write rate samples out).0.number ≡ 0 → ⊥) → (write rate samples out).0.length ≡ 0
  pub once : (a b : Result ℕ Fault) → told a ≡ told b → a ≡ b

-- "the output is then unchanged, and past the file it always is"; it never grows or shrinks
pub record Leaves : Type 0 where
  pub unchanged : (rate : ℕ) (samples out : List ℕ) → ((write rate samples out).0.number ≡ 0 → ⊥) → (write rate samples out).1 ≡ out
  pub past : (rate : ℕ) (samples out : List ℕ) → drop (44 + length samples) (write rate samples out).1 ≡ drop (44 + length samples) out
  pub as_long : (rate : ℕ) (samples out : List ℕ) → length (write rate samples out).1 ≡ length out

-- what can be written, and where
pub record Writable (rate : ℕ) (samples : List ℕ) : Type 0 where
  pub lowest : lowest_rate ≤ rate
  pub highest : rate ≤ highest_rate
  pub even : length samples % 2 ≡ 0
  pub short : length samples ≤ 1048576

abbrev pub Room : List ℕ → List ℕ → Type 0
Room samples out = 44 + length samples ≤ length out

-- all of that is written, and nothing else is; and how long a file is
pub record Exactly : Type 0 where
  pub all : (rate : ℕ) (samples out : List ℕ) → Writable rate samples → Room samples out → write rate samples out ≡ (done (44 + length samples), over (file rate samples) out)
  pub nothing_else : (rate : ℕ) (samples out : List ℕ) → (write rate samples out).0.number ≡ 0 → Writable rate samples × Room samples out
  pub long : (rate : ℕ) (samples : List ℕ) → length (file rate samples) ≡ 44 + length samples

-- the bytes that a reader's place and length cut out of a file
abbrev pub samples_in : List ℕ → ℕ → ℕ → List ℕ
samples_in s place size = take size (drop place s)

-- "Reading what was written gives the same rate and samples", whatever lies behind it; so does reading the whole output buffer
pub record ReadBack : Type 0 where
  pub found : (rate : ℕ) (samples out rest : List ℕ) → (write rate samples out).0.number ≡ 0 → Reads (file rate samples ++ rest) rate 44 (length samples)
  pub samples : (rate : ℕ) (samples rest : List ℕ) → samples_in (file rate samples ++ rest) 44 (length samples) ≡ samples
  pub output : (rate : ℕ) (samples out : List ℕ) → (write rate samples out).0.number ≡ 0 → Reads (write rate samples out).1 rate 44 (length samples) × (samples_in (write rate samples out).1 44 (length samples) ≡ samples)

-- what a file that was read is written again as
abbrev pub again : List ℕ → ℕ → ℕ → ℕ → List ℕ
again s rate place size = file rate (samples_in s place size)

-- the same bytes; "shorter", for other chunks before the samples or bytes behind them; or the same but for the RIFF size, which was too large
pub data Becomes (s : List ℕ) (rate place size : ℕ) : Type 0 where
  same : place ≡ 44 → place + size ≡ length s → riff_size s ≡ 36 + size → again s rate place size ≡ s → Becomes s rate place size
  shorter : (44 < place) ⊎ (place + size < length s) → length (again s rate place size) < length s → Becomes s rate place size
  resized : place ≡ 44 → place + size ≡ length s → 36 + size < riff_size s → again s rate place size ≡ put32 s 4 (36 + size) → Becomes s rate place size

-- "Writing again what was read from such a file gives the same bytes"; every other file that is read is one of the two exceptions; where the samples begin at 44 no other chunk stands before them; and what was read can be written where there is room, but for too many samples
pub record Again : Type 0 where
  pub same : (s : List ℕ) (rate size : ℕ) → Bytes s → Reads s rate 44 size → length s ≡ 44 + size → riff_size s ≡ 36 + size → again s rate 44 size ≡ s
  pub every : (s : List ℕ) (rate place size : ℕ) → Bytes s → Reads s rate place size → Becomes s rate place size
  pub no_chunk : (s : List ℕ) (rate size : ℕ) → Bytes s → Reads s rate 44 size → s ≡ Grammar.file (riff_size s) [] rate [] size (drop 44 s)
  pub written : (s out : List ℕ) (rate place size : ℕ) → Reads s rate place size → size ≤ longest_data → 44 + size ≤ length out → write rate (samples_in s place size) out ≡ (done (44 + size), over (again s rate place size) out)
  pub too_long : (s out : List ℕ) (rate place size : ℕ) → Reads s rate place size → longest_data < size → write rate (samples_in s place size) out ≡ (refused 17, out)
