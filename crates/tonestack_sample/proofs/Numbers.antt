-- A number is what equals itself.
-- Assumes nothing.
use mathlib.Core.Path.{◌≡◌, refl}
use mathlib.Core.Bool.{Bool, true, false, not, ◌||◌}
use lib.Ieee.{Float, nan, inf, fin, eq, lt, le, is_nan}
use Rattle.std.specs.Prelude.{T}
use Rattle.std.proofs.lemmas.Float.{le_refl, lt_irrefl}

either : (a b : Bool) → (T a → ⊥) → T (a || b) → true ≡ b
either true b none _ = absurd (none tt)
either false true _ _ = refl
either false false _ one = absurd one

pub itself : (x : Float) → not (is_nan x) ≡ eq x x
unfolding eq le is_nan
itself nan = refl
itself (inf true) = refl
itself (inf false) = refl
itself (fin s m e) = either (lt (fin s m e) (fin s m e)) _ (lt_irrefl (fin s m e)) (le_refl (fin s m e) tt)
