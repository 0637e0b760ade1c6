-- The alphas of the four one-pole filters. Definitions only.
-- Assumes nothing.
use Rattle.std.specs.Prelude.{Float}
use Rattle.std.specs.Float.{binary32}
use Rattle.std.specs.Float.Ieee.{add, mul, div}
use Rattle.answer.specs.Figures.{f32, one}
use Rattle.common.specs.Frequencies.{model_corners}
use Rattle.tonestack_sample.specs.Models.{model_of}
use Rattle.tonestack_sample.specs.declared.Settings.{Settings}
use Rattle.tonestack_sample.specs.declared.Alphas.{Alphas}

-- the f32 nearest to pi
abbrev pub pi : Float
pi = f32 314159265358979323846 100000000000000000000

-- the corner of the DC step, in Hz
abbrev pub dc_corner : Float
dc_corner = f32 20 1

-- alpha(f) = dt / (dt + 1/(2*pi*f)), dt being 1/rate, each operation rounded
unfoldable pub alpha : Float → Float → Float
alpha rate f =
    let dt = div binary32 one rate in
    div binary32 dt (add binary32 dt (div binary32 one (mul binary32 (mul binary32 (f32 2 1) pi) f)))

unfoldable pub alphas_of : Settings → Alphas
alphas_of s =
    let corners = model_corners (model_of s.model) in
    record {
      dc = alpha s.rate dc_corner;
      bass = alpha s.rate corners.bass;
      treble = alpha s.rate corners.treble;
      presence = alpha s.rate corners.presence;
    }
