-- What a recording is, with no walk in it: document 02's W1 as a grammar over lists of chunks. Definitions only.
-- Assumes nothing.
use Rattle.std.specs.Prelude.{ℕ, ◌+◌, ◌*◌, ◌%◌, ◌^◌, ◌≤◌, ◌<◌, ◌≡◌, List, [], ◌∷◌, ◌++◌, length}
use Rattle.answer.specs.Figures.{lowest_rate, highest_rate}
use Rattle.answer.specs.Names.{bytes}
use Rattle.words.specs.Words.{le16, le32}

-- ---- a chunk: its name, its bytes, and one more where they are odd, whatever its value
pub record Chunk : Type 0 where
  pub name : List ℕ
  pub body : List ℕ
  pub pad : List ℕ

pub record Formed (c : Chunk) : Type 0 where
  pub named : length c.name ≡ 4
  pub sized : length c.body < 2 ^ 32
  pub padded : length c.pad ≡ length c.body % 2

abbrev pub whole : Chunk → List ℕ
whole c = c.name ++ (le32 (length c.body) ++ (c.body ++ c.pad))

abbrev pub joined : List Chunk → List ℕ
joined [] = []
joined (c ∷ cs) = whole c ++ joined cs

-- ---- the chunks before the `fmt `, and those between it and `data`: a later `fmt ` may be among these, and may say anything
pub record Unknown (c : Chunk) : Type 0 where
  pub formed : Formed c
  pub no_data : c.name ≡ bytes "data" → ⊥
  pub no_format : c.name ≡ bytes "fmt " → ⊥

pub record Skipped (c : Chunk) : Type 0 where
  pub formed : Formed c
  pub no_data : c.name ≡ bytes "data" → ⊥

pub data Each (P : Chunk → Type 0) : List Chunk → Type 0 where
  none : Each P []
  more : {c : Chunk} {cs : List Chunk} → P c → Each P cs → Each P (c ∷ cs)

-- ---- the `fmt ` chunk: tag 1, one channel, the rate, twice that, align 2, 16 bits
abbrev pub format : ℕ → List ℕ
format rate = bytes "fmt " ++ (le32 16 ++ (le16 1 ++ (le16 1 ++ (le32 rate ++ (le32 (rate * 2) ++ (le16 2 ++ le16 16))))))

-- ---- the file: `rest` begins with the samples
abbrev pub file : ℕ → List Chunk → ℕ → List Chunk → ℕ → List ℕ → List ℕ
file riff before rate between size rest =
    bytes "RIFF" ++ (le32 riff ++ (bytes "WAVE" ++ (joined before ++ (format rate ++ (joined between ++ (bytes "data" ++ (le32 size ++ rest)))))))

-- where the samples begin
abbrev pub place_in : List Chunk → List Chunk → ℕ
place_in before between = 12 + length (joined before) + 24 + length (joined between) + 8

pub record IsWave (s : List ℕ) (rate place size : ℕ) : Type 0 where
  pub riff : ℕ
  pub before : List Chunk
  pub between : List Chunk
  pub rest : List ℕ
  pub is : s ≡ file riff before rate between size rest
  pub at : place ≡ place_in before between
  pub first : Each Unknown before
  pub later : Each Skipped between
  pub lowest : lowest_rate ≤ rate
  pub highest : rate ≤ highest_rate
  pub fits : riff < 2 ^ 32
  pub even : size % 2 ≡ 0
  pub in_buffer : size ≤ length rest
  pub in_riff : place + size ≤ riff + 8
