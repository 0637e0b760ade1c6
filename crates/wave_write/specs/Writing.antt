-- Document 02's W8: a recording as the list of bytes that is written, and the call. Definitions only.
-- Assumes nothing.
use Rattle.std.specs.Prelude.{ℕ, ◌+◌, ◌*◌, ◌%◌, ◌^◌, List, ◌++◌, eqb, leb, ltb, length}
use Rattle.answer.specs.Buffers.{over}
use Rattle.answer.specs.Names.{bytes}
use Rattle.answer.specs.Told.{unless}
use Rattle.words.specs.Words.{le16, le32}
use Rattle.wave.specs.Reading.{is_rate}
use Rattle.wave_write.specs.Answers.{done, refused}
use Rattle.wave_write.specs.declared.Figures.{Figures}

-- "Data is at most 1,048,576 bytes"
abbrev pub longest_data : ℕ
longest_data = 1048576

-- the RIFF size: 36 bytes of the head lie behind it, and then the samples
abbrev pub riff_for : ℕ → ℕ
riff_for size = 36 + size

abbrev pub byte_rate : ℕ → ℕ
byte_rate rate = rate * 2

-- ---- "the 44-byte header", before so many bytes of samples: tag 1, one channel, the rate, the byte rate, align 2, 16 bits
abbrev pub head : ℕ → ℕ → List ℕ
head rate size =
    bytes "RIFF" ++ (le32 (riff_for size) ++ (bytes "WAVE"
    ++ (bytes "fmt " ++ (le32 16 ++ (le16 1 ++ (le16 1 ++ (le32 rate ++ (le32 (byte_rate rate) ++ (le16 2 ++ (le16 16
    ++ (bytes "data" ++ le32 size)))))))))))

-- ---- "and one `data` chunk"
abbrev pub file : ℕ → List ℕ → List ℕ
file rate samples = head rate (length samples) ++ samples

-- ---- what is told, and the output buffer then: "in this order: 5, 14 for odd data, 17 for data over the limit, 15 for too little room"
unfoldable pub write : ℕ → List ℕ → List ℕ → Figures × List ℕ
write rate samples out =
    unless (is_rate rate) (refused 5, out)
    (unless (eqb (length samples % 2) 0) (refused 14, out)
    (unless (leb (length samples) longest_data) (refused 17, out)
    (unless (leb (44 + length samples) (length out)) (refused 15, out)
    (done (44 + length samples), over (file rate samples) out))))

-- ---- the head alone, for samples that a host writes behind it: any even length whose RIFF size fits in 32 bits. The same refusals in the same order
unfoldable pub write_head : ℕ → ℕ → List ℕ → Figures × List ℕ
write_head rate size out =
    unless (is_rate rate) (refused 5, out)
    (unless (eqb (size % 2) 0) (refused 14, out)
    (unless (ltb (riff_for size) (2 ^ 32)) (refused 17, out)
    (unless (leb 44 (length out)) (refused 15, out)
    (done 44, over (head rate size) out))))
