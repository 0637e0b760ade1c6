-- One sample of the tone stack, each line an operation of `tonestack.rs`, in its order. Definitions only.
-- Assumes nothing.
use Rattle.std.specs.Prelude.{cond, Float}
use Rattle.std.specs.Float.{binary32}
use Rattle.std.specs.Float.Ieee.{lt, add, sub, mul}
use Rattle.rounding.specs.Fma.{fma}
use Rattle.answer.specs.Figures.{f32}
use Rattle.common.specs.declared.frequencies.Model.{Model}
use Rattle.common.specs.declared.frequencies.Model.TheVariants.{Modern, British, American, Flat}
use Rattle.tonestack_sample.specs.Models.{model_of}
use Rattle.tonestack_sample.specs.declared.Settings.{Settings}
use Rattle.tonestack_sample.specs.Alpha.{alphas_of}
use Rattle.tonestack_sample.specs.declared.Alphas.{Alphas}
use Rattle.tonestack_sample.specs.declared.Registers.{Registers}

-- the least gain of a band
abbrev pub least_gain : Float
least_gain = f32 1 1000

-- what the last product leaves for the stages after this one
abbrev pub headroom : Float
headroom = f32 7 10

unfoldable pub one_pole : Float → Float → Float → Float
one_pole alpha state x = fma binary32 alpha (sub binary32 x state) state

unfoldable pub gain : Float → Float
gain control = cond (lt least_gain control) control least_gain

-- the last factors 0.95, 1.05, 1 (no product), 0.97 for Modern, British, Flat, American
unfoldable pub flavoured : Model → Float → Float
flavoured Modern shelf = mul binary32 shelf (f32 95 100)
flavoured British shelf = mul binary32 shelf (f32 105 100)
flavoured American shelf = mul binary32 shelf (f32 97 100)
flavoured Flat shelf = shelf

-- the bands by their gains: what lies above treble's corner, below bass's, and between the two
unfoldable pub mixed : Settings → Float → Float → Float → Float
mixed s x bass treble =
    let high = sub binary32 x treble in
    let mid = sub binary32 treble bass in
    fma binary32 high (gain s.treble) (fma binary32 bass (gain s.bass) (mul binary32 mid (gain s.mid)))

-- the presence shelf, the model's last factor, then 0.7
unfoldable pub finished : Settings → Float → Float → Float
finished s mix presence =
    let shelf = fma binary32 (sub binary32 mix presence) s.factor.0 presence in
    mul binary32 (flavoured (model_of s.model) shelf) headroom

module _ (a : Alphas) (s : Settings) (m : Registers) (input : Float) where
  -- the DC step, which is not fused
  unfoldable pub dc : Float
  dc = add binary32 m.dc (mul binary32 a.dc (sub binary32 input m.dc))

  unfoldable pub blocked : Float
  blocked = sub binary32 input dc

  unfoldable pub bass : Float
  bass = one_pole a.bass m.bass blocked

  unfoldable pub treble : Float
  treble = one_pole a.treble m.treble blocked

  unfoldable pub mix : Float
  mix = mixed s blocked bass treble

  unfoldable pub presence : Float
  presence = one_pole a.presence m.presence mix

  unfoldable pub output_with : Float
  output_with = finished s mix presence

  unfoldable pub next_with : Registers
  next_with = record { dc = dc; bass = bass; treble = treble; presence = presence }

-- ---- the alphas worked out at each sample
module _ (s : Settings) (m : Registers) (input : Float) where
  unfoldable pub next : Registers
  next = next_with (alphas_of s) s m input

  unfoldable pub output : Float
  output = output_with (alphas_of s) s m input
