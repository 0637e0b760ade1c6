-- The follower: a sample's step, and a follower alone, in document 01's order. Definitions only.
-- Assumes nothing.
use Rattle.std.specs.Prelude.{Bool, ◌&&◌, cond, Float}
use Rattle.std.specs.Float.{binary32}
use Rattle.std.specs.Float.Ieee.{lt, mul, sub}
use Rattle.rounding.specs.Fma.{fma}
use Rattle.rounding.specs.Casts.{absolute}
use Rattle.answer.specs.Figures.{nought, one}
use Rattle.answer.specs.Checks.{is_smoothing}
use Rattle.answer.specs.Told.{Told, refused, done, done_with, unless}
use Rattle.answer.specs.declared.Refusal.TheVariants.{BadWorkedNumber, BadState}
use Rattle.common.specs.declared.follower.Follower.{Follower}

-- fma(c, from, (1-c)*to)
unfoldable pub toward : Float → Float → Float → Float
toward c from to = fma binary32 c from (mul binary32 (sub binary32 one c) to)

-- r is the size of x; c is the attack number if r > level, else the release number; new level = fma(c, level, (1-c)*r)
unfoldable pub followed : Float → Float → Float → Float → Float
followed attack release level x =
    let r = absolute x in
    let c = cond (lt level r) attack release in
    toward c level r

-- ---- alone
unfoldable pub acceptable : Float → Float → Bool
acceptable attack release = is_smoothing attack && is_smoothing release

abbrev pub with_level : Float → Float → Float → Follower
with_level attack release level = record { attack = attack; release = release; level = level }

-- what a refused making gives
abbrev pub unmade : Follower
unmade = with_level one one nought

unfoldable pub make : Float → Float → Told Follower
make attack release = unless (acceptable attack release) (refused unmade BadWorkedNumber) (done (with_level attack release nought))

unfoldable pub step : Follower → Float → Told Follower
step f x =
    let level = followed f.attack f.release f.level x in
    unless (acceptable f.attack f.release) (refused f BadState)
    (done_with (with_level f.attack f.release level) 0 level)

unfoldable pub reset : Follower → Told Follower
reset f =
    unless (acceptable f.attack f.release) (refused f BadState)
    (done (with_level f.attack f.release nought))
