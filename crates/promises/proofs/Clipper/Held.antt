-- What a clamp gives lies from lowest to highest, unless it is given a NaN.
-- Assumes nothing.
use mathlib.Core.Path.{◌≡◌, refl}
use mathlib.Core.Bool.{Bool, true, false, not, cond}
use Prim.Native.Nat.{◌*◌}
use native.Mathlib.Nat.{le_refl}
use lib.Dec.{T}
use lib.Ieee.{Float, nan, inf, fin, up, down, lt, le, is_nan}
use borrow.Author.Tests.{le-ltb}
use Rattle.clipper.specs.Process.{clamp}
use Rattle.promises.specs.Clipper.{Between}
use Rattle.promises.proofs.Order.{not-below}

irreflexive : (x : Float) → lt x x ≡ false
unfolding lt
irreflexive nan = refl
irreflexive (inf true) = refl
irreflexive (inf false) = refl
irreflexive (fin false m e) = le-ltb (m * up e * down e) (m * up e * down e) (le_refl (m * up e * down e))
irreflexive (fin true m e) = le-ltb (m * up e * down e) (m * up e * down e) (le_refl (m * up e * down e))

module _ (lowest highest : Float) (ordered : T (le lowest highest)) (low-is : T (not (is_nan lowest))) (high_is : T (not (is_nan highest))) where
  lowered : (x : Float) → T (not (is_nan x)) → T (le lowest x) → Between lowest highest (cond (lt highest x) highest x)
  lowered x is h = go (lt highest x) refl
    where
      go : (t : Bool) → lt highest x ≡ t → Between lowest highest (cond t highest x)
      go true e = record { above = ordered; below = not-below highest highest high_is high_is (irreflexive highest) }
      go false e = record { above = h; below = not-below highest x high_is is e }

  pub clamp-between : (x : Float) → T (not (is_nan x)) → Between lowest highest (clamp lowest highest x)
  unfolding clamp
  clamp-between x is = go (lt x lowest) refl
    where
      go : (t : Bool) → lt x lowest ≡ t → Between lowest highest (cond (lt highest (cond t lowest x)) highest (cond t lowest x))
      go true e = lowered lowest low-is (not-below lowest lowest low-is low-is (irreflexive lowest))
      go false e = lowered x is (not-below x lowest is low-is e)
