-- One sample through bands in a row, each reading what the one before it gives, and a buffer of samples through all. Definitions only.
-- Assumes nothing.
use Rattle.std.specs.Prelude.{List, [], ◌∷◌, Float}
use Rattle.rounding.specs.Casts.{narrow}
use Rattle.fold.specs.Fold.{state_after, out_after}
use Rattle.eq_bands.specs.declared.Band.{Band}
use Rattle.eq_bands.specs.declared.Settings.{Settings}
use Rattle.eq_bands.specs.declared.Delay.{Delay}
use Rattle.eq_bands.specs.declared.Registers.{Registers}
use Rattle.eq_bands.specs.Biquad as Biquad

-- what a sample leaves in the bands
unfoldable pub row_next : List Band → List Delay → Float → List Delay
row_next [] ds x = ds
row_next (b ∷ bs) [] x = []
row_next (b ∷ bs) (d ∷ ds) x = Biquad.next b.numbers d x ∷ row_next bs ds (Biquad.output b.numbers d x)

-- what the last band gives
unfoldable pub row_output : List Band → List Delay → Float → Float
row_output [] ds x = x
row_output (b ∷ bs) [] x = x
row_output (b ∷ bs) (d ∷ ds) x = row_output bs ds (Biquad.output b.numbers d x)

-- bands 0 to 15
unfoldable pub next : Settings → Registers → Float → Registers
next s m x = record { bands = row_next s.bands m.bands x }

unfoldable pub output : Settings → Registers → Float → Float
output s m x = row_output s.bands m.bands x

-- then one rounding to f32
unfoldable pub rounded : Settings → Registers → Float → Float
rounded s m x = narrow (output s m x)

-- one sample after the other
abbrev pub through : Settings → Registers → List Float → Registers × List Float
through s m xs = (state_after (next s) m xs, out_after (next s) (output s) m xs)
