-- What reading promises of any list of bytes, beyond the equation of `read`. Statements only.
-- Assumes nothing.
use Rattle.std.specs.Prelude.{ℕ, suc, ◌+◌, ◌-◌, ◌%◌, ◌≤◌, ◌≡◌, true, List, ◌++◌, None, Result, pos, length, take, drop}
use Rattle.std.specs.Float.{binary32}
use Rattle.std.specs.Float.Ieee.{of_int, to_unsigned}
use Rattle.answer.specs.Checks as Checks
use Rattle.answer.specs.Figures.{lowest_rate, highest_rate}
use Rattle.answer.specs.Names.{bytes}
use Rattle.words.specs.Words.{Bytes, le32}
use Rattle.wave.specs.Answers.{found, told}
use Rattle.wave.specs.Grammar.{IsWave}
use Rattle.wave.specs.Reading.{riff_size, chunks, end_within, walk, read}
use Rattle.wave.specs.declared.Fault.{Fault}
use Rattle.wave.specs.declared.Found.{Found}

abbrev pub Reads : List ℕ → ℕ → ℕ → ℕ → Type 0
Reads s rate place size = read s ≡ found rate place size

-- "They answer three zeros"; and what is told says which answer it was
pub record Tells : Type 0 where
  pub zeros : (s : List ℕ) → ((read s).number ≡ 0 → ⊥) → ((read s).rate ≡ 0) × (((read s).place ≡ 0) × ((read s).length ≡ 0))
  pub once : (a b : Result Found Fault) → told a ≡ told b → a ≡ b

-- where samples may lie: inside the buffer and the RIFF chunk, behind 44 bytes of heads at the least, at an even place; and at which rates
pub record Inside (s : List ℕ) (rate place size : ℕ) : Type 0 where
  pub in_buffer : place + size ≤ length s
  pub in_riff : place + size ≤ riff_size s + 8
  pub behind_heads : 44 ≤ place
  pub even_place : place % 2 ≡ 0
  pub even_size : size % 2 ≡ 0
  pub lowest : lowest_rate ≤ rate
  pub highest : rate ≤ highest_rate

-- every answer is such, and its samples stand behind the head that says so; its rate is one that the stages accept as an f32, and that f32 is exactly it
pub record Lies : Type 0 where
  pub inside : (s : List ℕ) (rate place size : ℕ) → Reads s rate place size → Inside s rate place size
  pub head : (s : List ℕ) (rate place size : ℕ) → Bytes s → Reads s rate place size → take 8 (drop (place - 8) s) ≡ bytes "data" ++ le32 size
  pub accepted : (s : List ℕ) (rate place size : ℕ) → Reads s rate place size → Checks.is_rate (of_int binary32 (pos rate)) ≡ true
  pub exact : (s : List ℕ) (rate place size : ℕ) → Reads s rate place size → to_unsigned 32 (of_int binary32 (pos rate)) ≡ rate

-- every recording of the grammar is read, and nothing else is
pub record Exactly : Type 0 where
  pub all : (s : List ℕ) (rate place size : ℕ) → IsWave s rate place size → Reads s rate place size
  pub nothing_else : (s : List ℕ) (rate place size : ℕ) → Bytes s → Reads s rate place size → IsWave s rate place size

-- only heads count: whatever the samples are, and whatever follows them
pub record OnlyHeads : Type 0 where
  pub any_samples : (s other : List ℕ) (rate place size : ℕ) → Reads s rate place size → length other ≡ size → Reads (take place s ++ (other ++ drop (place + size) s)) rate place size
  pub any_rest : (s more : List ℕ) (k rate place size : ℕ) → Reads s rate place size → place + size ≤ k → Reads (take k s ++ more) rate place size

-- the definition's walk may take more turns, and leads to the same
pub record Lasts : Type 0 where
  pub longer : (s : List ℕ) (limit more : ℕ) → chunks s (end_within s limit) (suc (length s) + more) 12 None ≡ walk s limit
