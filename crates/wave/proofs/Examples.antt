-- The definition at work: a file of two samples, and why a list of bytes is asked for.
-- Assumes nothing.
use Prim.Native.Nat.{ℕ}
use mathlib.Core.Path.{◌≡◌, refl}
use mathlib.Core.List.{List, [], ◌∷◌, ◌++◌}
use lib.ListN.{drop}
use Rattle.answer.specs.Names.{bytes, same}
use Rattle.words.specs.Words.{word16, word32}
use Rattle.wave.specs.Answers.{found}
use Rattle.wave.specs.Reading.{is_rate, is_named, is_format, samples_at, format_step, step, chunks, walk, is_wave, read}
use Rattle.wave.specs.Grammar.{file}

samples : List ℕ
samples = 1 ∷ 2 ∷ 3 ∷ 4 ∷ []

plain : read (file 40 [] 48000 [] 4 samples) ≡ found 48000 44 4
unfolding samples read is_wave walk chunks step format_step samples_at is_rate is_named is_format same word16 word32
plain = refl

-- 296, 0, 0, 0 is read as the word that the bytes 40, 1, 0, 0 make, and no file of the grammar begins so: `nothing_else` asks that all are bytes
no_byte : read (bytes "RIFF" ++ (296 ∷ 0 ∷ 0 ∷ 0 ∷ drop 8 (file 40 [] 48000 [] 4 samples))) ≡ found 48000 44 4
unfolding samples read is_wave walk chunks step format_step samples_at is_rate is_named is_format same word16 word32
no_byte = refl
