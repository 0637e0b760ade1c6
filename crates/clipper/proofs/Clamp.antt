-- Where its bounds are in order, the library's clamp is the clamp of the Rust. Assumes nothing.
use Rattle.std.proofs.Common.{◌≡◌, Bool, true, false, cond, refl}
use lib.Ieee.{Float, lt}
use Rattle.std.specs.Float.{float_clamp}
use Rattle.clipper.specs.Process.{clamp}

pub clamp-is : (lowest highest x : Float) → lt highest lowest ≡ false → float_clamp x lowest highest ≡ clamp lowest highest x
unfolding clamp
clamp-is lowest highest x e = go (lt x lowest)
  where
    go : (b : Bool) → cond b lowest (cond (lt highest x) highest x) ≡ cond (lt highest (cond b lowest x)) highest (cond b lowest x)
    go true = rw e
    go false = refl
