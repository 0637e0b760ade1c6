-- One sample of a band, and a band over a buffer of samples. Definitions only.
-- Assumes nothing.
use Rattle.std.specs.Prelude.{List, Float}
use Rattle.std.specs.Float.{binary64}
use Rattle.std.specs.Float.Ieee.{mul, sub}
use Rattle.rounding.specs.Fma.{fma}
use Rattle.fold.specs.Fold.{state_after, out_after}
use Rattle.eq_bands.specs.declared.Numbers.{Numbers}
use Rattle.eq_bands.specs.declared.Delay.{Delay}

-- y = fma(b0, x, fma(b1, x1, b2*x2)) - fma(a1, y1, a2*y2)
unfoldable pub output : Numbers → Delay → Float → Float
output n d x =
    sub binary64
    (fma binary64 n.b0 x (fma binary64 n.b1 d.x1 (mul binary64 n.b2 d.x2)))
    (fma binary64 n.a1 d.y1 (mul binary64 n.a2 d.y2))

unfoldable pub next : Numbers → Delay → Float → Delay
next n d x = record { x1 = x; x2 = d.x1; y1 = output n d x; y2 = d.y1 }

-- one sample after the other: what they leave, and what they give
abbrev pub over : Numbers → Delay → List Float → Delay × List Float
over n d xs = (state_after (next n) d xs, out_after (next n) (output n) d xs)
