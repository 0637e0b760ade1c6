-- The follower's level stays from 0 to 64, rounding included: for f32 numbers, worked numbers from 0 up to but excluding 1, and a sample of at most 64 in size.
-- Assumes nothing.
use mathlib.Core.Bool.{Bool, true, false, cond}
use lib.Dec.{T}
use lib.Ieee.{Float, Format, binary32, fits, le, lt, mul, sub}
use lib.Ieee.Fits.{and_i, and_l, and_r}
use Rattle.rounding.specs.Casts.{absolute}
use Rattle.rounding.proofs.Smoothing.{sixty-four, In, Within, lt→le, absolute-in, follower}
use Rattle.rounding.proofs.Sizes.{fma-fits}
use Rattle.answer.specs.Figures.{f32, nought, one, largest_sample}
use Rattle.answer.specs.Checks.{in_range, is_smoothing}
use Rattle.common.specs.Follower.{toward, followed}

worked-in : (c : Float) → T (fits binary32 c) → T (is_smoothing c) → In binary32 one c
unfolding is_smoothing
worked-in c fit h = record { fit = fit; above = and_l (le nought c) (lt c one) h; below = lt→le c one (and_r (le nought c) (lt c one) h) }

level_in : (v : Float) → T (fits binary32 v) → T (in_range nought (f32 largest_sample 1) v) → In binary32 sixty-four v
unfolding f32
level_in v fit h = record { fit = fit; above = and_l (le nought v) (le v sixty-four) h; below = and_r (le nought v) (le v sixty-four) h }

size_in : (x : Float) → T (fits binary32 x) → T (le (absolute x) (f32 largest_sample 1)) → In binary32 sixty-four (absolute x)
unfolding f32
size_in x fit h = absolute-in binary32 x sixty-four fit h

toward-within : (c v r : Float) → In binary32 one c → In binary32 sixty-four v → In binary32 sixty-four r → Within sixty-four (toward c v r)
unfolding toward
toward-within c v r ic iv ir = follower binary32 c v r ic iv ir

either-in : (t : Bool) {f : Format} {y a b : Float} → In f y a → In f y b → In f y (cond t a b)
either-in true p q = p
either-in false p q = q

pub level-within : (attack release level x : Float)
    → T (fits binary32 attack) → T (fits binary32 release) → T (fits binary32 level) → T (fits binary32 x)
    → T (is_smoothing attack) → T (is_smoothing release) → T (in_range nought (f32 largest_sample 1) level) → T (le (absolute x) (f32 largest_sample 1))
    → T (in_range nought (f32 largest_sample 1) (followed attack release level x))
unfolding followed f32
level-within attack release level x fa fr fl fx a r l s =
    let t = lt level (absolute x) in
    let v = toward (cond t attack release) level (absolute x) in
    let w = toward-within (cond t attack release) level (absolute x) (either-in t (worked-in attack fa a) (worked-in release fr r)) (level_in level fl l) (size_in x fx s) in
    and_i (le nought v) (le v sixty-four) w.above w.below

-- and it is an f32 again
pub level-fits : (attack release level x : Float) → T (fits binary32 (followed attack release level x))
unfolding followed toward
level-fits attack release level x =
    let c = cond (lt level (absolute x)) attack release in
    fma-fits binary32 c level (mul binary32 (sub binary32 one c) (absolute x))
