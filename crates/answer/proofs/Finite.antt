-- A number is finite exactly if its size is below infinity.
-- Assumes nothing.
use mathlib.Core.Path.{◌≡◌, refl}
use mathlib.Core.Bool.{false}
use lib.Ieee.{Float, nan, inf, fin, lt}
use lib.Ieee.Scale.{finite}
use Rattle.rounding.specs.Casts.{absolute}

pub below-infinity : (x : Float) → lt (absolute x) (inf false) ≡ finite x
unfolding lt absolute
below-infinity nan = refl
below-infinity (inf s) = refl
below-infinity (fin s m e) = refl
