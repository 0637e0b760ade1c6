-- The definition at work: a file of one sample, byte for byte; and refusals that come before others.
-- Assumes nothing.
use mathlib.Core.Path.{◌≡◌, refl}
use mathlib.Core.List.{[], ◌∷◌}
use Rattle.wave.specs.Reading.{is_rate}
use Rattle.wave_write.specs.Answers.{refused}
use Rattle.wave_write.specs.Writing.{file, write}

-- 48,000 is 128 + 187 * 256, and twice that 119 * 256 + 65,536
one-sample : file 48000 (3 ∷ 4 ∷ []) ≡ 82 ∷ 73 ∷ 70 ∷ 70 ∷ 38 ∷ 0 ∷ 0 ∷ 0 ∷ 87 ∷ 65 ∷ 86 ∷ 69 ∷ 102 ∷ 109 ∷ 116 ∷ 32 ∷ 16 ∷ 0 ∷ 0 ∷ 0 ∷ 1 ∷ 0 ∷ 1 ∷ 0 ∷ 128 ∷ 187 ∷ 0 ∷ 0 ∷ 0 ∷ 119 ∷ 1 ∷ 0 ∷ 2 ∷ 0 ∷ 16 ∷ 0 ∷ 100 ∷ 97 ∷ 116 ∷ 97 ∷ 2 ∷ 0 ∷ 0 ∷ 0 ∷ 3 ∷ 4 ∷ []
one-sample = refl

-- no accepted rate, odd data and no room: 5
rate-first : write 7999 (3 ∷ []) [] ≡ (refused 5, [])
unfolding write is_rate
rate-first = refl

-- odd data and no room: 14
odd-first : write 8000 (3 ∷ []) (7 ∷ []) ≡ (refused 14, 7 ∷ [])
unfolding write is_rate
odd-first = refl
