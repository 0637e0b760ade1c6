-- Document 01's frequencies in Hz: band centres, and a model's corners. Definitions only.
-- Assumes nothing.
use Rattle.std.specs.Prelude.{ℕ, List, [], ◌∷◌, map, get_or, Float, Option, Some, None}
use Rattle.answer.specs.Figures.{f32, f64}
use Rattle.common.specs.declared.frequencies.Model.{Model}
use Rattle.common.specs.declared.frequencies.Model.TheVariants.{Modern, British, American, Flat}
use Rattle.common.specs.declared.frequencies.Corners.{Corners}

-- the sixteen band centres
unfoldable pub centres : List Float
unfolding f64
centres = map (λ (n : ℕ). f64 n 1) (25 ∷ 40 ∷ 63 ∷ 100 ∷ 160 ∷ 250 ∷ 400 ∷ 630 ∷ 1000 ∷ 1600 ∷ 2500 ∷ 4000 ∷ 6300 ∷ 10000 ∷ 16000 ∷ 20000 ∷ [])

unfoldable pub band_centre : ℕ → Option Float
unfolding centres
band_centre band = get_or (map Some centres) band None

-- a model's corners: bass, treble, presence
abbrev pub hertz : ℕ → ℕ → ℕ → Corners
hertz bass treble presence = record { bass = f32 bass 1; treble = f32 treble 1; presence = f32 presence 1 }

unfoldable pub model_corners : Model → Corners
model_corners Modern = hertz 120 2200 6000
model_corners British = hertz 100 2000 5000
model_corners American = hertz 80 1800 4000
model_corners Flat = hertz 100 2000 5000
