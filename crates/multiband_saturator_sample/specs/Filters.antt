-- The Rust's LR4Filter, two biquads with the same numbers, one after the other; and the two filters at one frequency. Definitions only.
-- Assumes nothing.
use Rattle.std.specs.Prelude.{Float}
use Rattle.std.specs.Float.{binary32}
use Rattle.std.specs.Float.Ieee.{mul, neg}
use Rattle.rounding.specs.Fma.{fma}
use Rattle.multiband_saturator_settings.specs.declared.Numbers.{Numbers}
use Rattle.multiband_saturator_settings.specs.declared.Crossover.{Crossover}
use Rattle.multiband_saturator_sample.specs.declared.Biquad.{Biquad}
use Rattle.multiband_saturator_sample.specs.declared.Filter.{Filter}
use Rattle.multiband_saturator_sample.specs.declared.Split.{Split}

-- fma(a2, -y2, fma(a1, -y1, fma(b2, x2, fma(b0, x, b1*x1))))
unfoldable pub output : Numbers → Biquad → Float → Float
output n b x =
    fma binary32 n.a2 (neg b.y2)
    (fma binary32 n.a1 (neg b.y1)
    (fma binary32 n.b2 b.x2
    (fma binary32 n.b0 x (mul binary32 n.b1 b.x1))))

-- x2 = x1, x1 = x; y2 = y1, y1 = the output
unfoldable pub biquad : Numbers → Biquad → Float → Biquad
biquad n b x = record { x1 = x; x2 = b.x1; y1 = output n b x; y2 = b.y1 }

-- the second biquad's sample is what the first gives
unfoldable pub filtered : Numbers → Filter → Float → Filter
filtered n f x =
    let first = biquad n f.first x in
    record { first = first; second = biquad n f.second first.y1 }

-- what a filter gave last
abbrev pub given : Filter → Float
given f = f.second.y1

unfoldable pub split : Crossover → Split → Float → Split
split c f x = record { lp = filtered c.lowpass f.lp x; hp = filtered c.highpass f.hp x }
