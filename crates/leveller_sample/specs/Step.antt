-- One sample of the leveller, each line a phrase of document 02's W7, in its order. Definitions only.
-- Assumes nothing.
use Rattle.std.specs.Prelude.{◌||◌, cond, Float}
use Rattle.std.specs.Float.{binary32}
use Rattle.std.specs.Float.Ieee.{lt, eq, mul, div}
use Rattle.rounding.specs.Casts.{absolute}
use Rattle.root.specs.Root.{root}
use Rattle.answer.specs.Figures.{one}
use Rattle.common.specs.Follower.{followed}
use Rattle.leveller_sample.specs.Figures.{least, two}
use Rattle.leveller_settings.specs.declared.Settings.{Settings}
use Rattle.leveller_sample.specs.declared.Registers.{Registers}

-- the larger of x and a number a, which is a where x is NaN
unfoldable pub larger : Float → Float → Float
larger x a = cond (lt a x) x a

-- level input is the larger of the sample's size and 1e-10
unfoldable pub level_input : Float → Float
level_input x = larger (absolute x) least

-- gain is 1 at ratio 1 or where over is 1, otherwise 1/s at ratio 2 and 1/(s*q) at ratio 4, where s is the root of over and q the root of s, and each operation rounds once
unfoldable pub gain_at : Float → Float → Float
gain_at ratio over =
    let s = root binary32 over in
    let q = root binary32 s in
    cond (eq ratio one || eq over one) one (cond (eq ratio two) (div binary32 one s) (div binary32 one (mul binary32 s q)))

module _ (s : Settings) (m : Registers) (x : Float) where
  -- the follower, with attack's and release's smoothing numbers
  unfoldable pub level : Float
  level = followed s.attack.number s.release.number m.level (level_input x)

  -- over is the larger of level/threshold and 1
  unfoldable pub over : Float
  over = larger (div binary32 level s.factor.0) one

  unfoldable pub gain : Float
  gain = gain_at s.ratio over

  -- output is sample times gain times makeup, in that order, each rounded
  unfoldable pub output : Float
  output = mul binary32 (mul binary32 x gain) s.makeup.0

  unfoldable pub next : Registers
  next = record { level = level }

  unfoldable pub step : Registers × Float
  step = (next, output)
