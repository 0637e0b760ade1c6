-- One band: its envelope, its saturation with make-up by the envelope, its DC blocker. Definitions only.
-- Assumes nothing.
use Rattle.std.specs.Prelude.{cond, Float}
use Rattle.std.specs.Float.{binary32}
use Rattle.std.specs.Float.Ieee.{lt, add, mul, div}
use Rattle.rounding.specs.Fma.{fma}
use Rattle.rounding.specs.Casts.{absolute}
use Rattle.answer.specs.Figures.{f32, one}
use Rattle.common.specs.Follower.{followed}
use Rattle.common.specs.Blocker.{blocked}
use Rattle.multiband_saturator_sample.specs.declared.BandRegisters.{BandRegisters}

-- x = input * fma(drive, 9, 1); x / (1 + size of x)
unfoldable pub saturate : Float → Float → Float
saturate input drive =
    let x = mul binary32 input (fma binary32 drive (f32 9 1) one) in
    div binary32 x (add binary32 one (absolute x))

-- if the envelope is above 0.0001, x is divided by 1 + env and made up for by fma(env, 0.5, 1); the Rust's low_sat
unfoldable pub saturated : Float → Float → Float → Float
saturated x drive env =
    cond (lt (f32 1 10000) env)
    (mul binary32 (saturate (div binary32 x (add binary32 one env)) drive) (fma binary32 env (f32 1 2) one))
    (saturate x drive)

-- the follower, the saturation by its new level, then the blocker, whose y1 is what the band gives, the Rust's low_clean
unfoldable pub passed : Float → Float → Float → Float → BandRegisters → Float → BandRegisters
passed attack release c drive b x =
    let env = followed attack release b.level x in
    let clean = blocked (record { c = c; x1 = b.x1; y1 = b.y1 }) (saturated x drive env) in
    record { level = env; x1 = clean.x1; y1 = clean.y1 }
