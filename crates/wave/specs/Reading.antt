-- Document 02's W1: reading a recording in a list of bytes. Definitions only.
-- Assumes nothing.
use Rattle.std.specs.Prelude.{ℕ, zero, suc, ◌+◌, ◌*◌, ◌%◌, min, Bool, ◌&&◌, cond, List, Option, Some, None, is_none, eqb, ltb, leb, length, take, drop}
use Rattle.answer.specs.Figures.{lowest_rate, highest_rate}
use Rattle.answer.specs.Names.{bytes, same}
use Rattle.answer.specs.Told.{unless}
use Rattle.words.specs.Words.{word16, word32}
use Rattle.wave.specs.Answers.{found, refused}
use Rattle.wave.specs.declared.Figures.{Figures}

-- where the chunks lead: to the head of `data` at a place, with the rate known there, none where no `fmt ` came before it; or to the number of a refusal
pub data Met : Type 0 where
  Data : ℕ → Option ℕ → Met
  Stops : ℕ → Met

-- what one chunk leads to: that, or the place of the next chunk with the rate known there
pub data Step : Type 0 where
  Ends : Met → Step
  On : ℕ → Option ℕ → Step

abbrev pub follow : Step → (ℕ → Option ℕ → Met) → Met
follow (Ends m) next = m
follow (On at rate) next = next at rate

unfoldable pub is_rate : ℕ → Bool
is_rate rate = leb lowest_rate rate && leb rate highest_rate

-- the answer where no rate is known, and what is done with one
abbrev pub where_known : {A : Type 0} → Option ℕ → A → (ℕ → A) → A
where_known None otherwise rest = otherwise
where_known (Some rate) otherwise rest = rest rate

module _ (s : List ℕ) where
  -- the four bytes at a place are this name
  unfoldable pub is_named : ℕ → List ℕ → Bool
  is_named at name = same (take 4 (drop at s)) name

  -- the size in the head at a place, and the place behind that chunk "with its pad byte for odd sizes"
  abbrev pub size_at : ℕ → ℕ
  size_at at = word32 s (at + 4)

  abbrev pub behind : ℕ → ℕ
  behind at = at + 8 + size_at at + size_at at % 2

  abbrev pub is_data : ℕ → Bool
  is_data at = is_named at (bytes "data")

  -- "later ones are skipped": no rate is known yet
  abbrev pub is_first_format : ℕ → Option ℕ → Bool
  is_first_format at rate = is_named at (bytes "fmt ") && is_none rate

  -- the 16 bytes at a place: tag 1, one channel, "byte rate must be rate times 2 and block align 2", 16 bits
  unfoldable pub is_format : ℕ → Bool
  is_format at =
      eqb (word16 s at) 1
      && (eqb (word16 s (at + 2)) 1
      && (eqb (word32 s (at + 8)) (word32 s (at + 4) * 2)
      && (eqb (word16 s (at + 12)) 2
      && eqb (word16 s (at + 14)) 16)))

  -- the first `fmt `, its bytes at a place, and the next chunk's place: 13, 5
  unfoldable pub format_step : ℕ → ℕ → ℕ → Step
  format_step place size next =
      unless (eqb size 16 && is_format place) (Ends (Stops 13))
      (unless (is_rate (word32 s (place + 4))) (Ends (Stops 5))
      (On next (Some (word32 s (place + 4)))))

  module _ (end : ℕ) where
    -- the chunk at a place, "as met": none, so no `data`, 12; its head, 11; `data`, whatever its head says; the chunk with its pad byte, 11; the first `fmt `
    unfoldable pub step : ℕ → Option ℕ → Step
    step at rate =
        unless (ltb at end) (Ends (Stops 12))
        (unless (leb (at + 8) end) (Ends (Stops 11))
        (cond (is_data at) (Ends (Data at rate))
        (unless (leb (behind at) end) (Ends (Stops 11))
        (cond (is_first_format at rate) (format_step (at + 8) (size_at at) (behind at))
        (On (behind at) rate)))))

    -- the chunks from a place on, at most so many
    unfoldable pub chunks : ℕ → ℕ → Option ℕ → Met
    chunks zero at rate = Stops 12
    chunks (suc most) at rate = follow (step at rate) (chunks most)

    -- the chunk `data` at a place: 11, 12, 14; "the pad of `data` isn't looked at"
    unfoldable pub samples_at : ℕ → Option ℕ → Figures
    samples_at at rate =
        unless (leb (at + 8 + size_at at) end) (refused 11)
        (where_known rate (refused 12) (λ hz.
        unless (eqb (size_at at % 2) 0) (refused 14)
        (found hz (at + 8) (size_at at))))

    abbrev pub samples_of : Met → Figures
    samples_of (Data at rate) = samples_at at rate
    samples_of (Stops number) = refused number

  -- a limit or the buffer's end, "whichever is first"
  abbrev pub end_within : ℕ → ℕ
  end_within limit = min limit (length s)

  -- the chunks from byte 12 up to that end: there are no more chunks than bytes
  unfoldable pub walk : ℕ → Met
  walk limit = chunks (end_within limit) (suc (length s)) 12 None

  unfoldable pub is_wave : Bool
  is_wave = leb 12 (length s) && (is_named 0 (bytes "RIFF") && is_named 8 (bytes "WAVE"))

  abbrev pub riff_size : ℕ
  riff_size = size_at 0

  -- 10, and the chunks up to "the RIFF size plus 8"
  unfoldable pub read : Figures
  read =
      unless is_wave (refused 10)
      (unless (leb 4 riff_size) (refused 10)
      (samples_of (end_within (riff_size + 8)) (walk (riff_size + 8))))
