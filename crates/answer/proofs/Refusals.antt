-- Number and place tell each refusal from every other.
-- Assumes nothing.
use mathlib.Core.Path.{◌≡◌, refl, sym}
use mathlib.Core.Bool.{false}
use mathlib.Core.List.{[], ◌∷◌}
use Prim.Native.Nat.{ℕ}
use native.Mathlib.Omega.{arith}
use lib.Dec.{eqb}
use lib.ListN.{get_or}
use borrow.Author.Tests.{ne_eqb}
use Rattle.answer.specs.Refusals.{number, place}
use Rattle.answer.specs.declared.Refusal.{Refusal}
use Rattle.answer.specs.declared.Refusal.TheVariants.{NoSetting, NoBand, OutOfRange, BadWorkedNumber, BadRate, BadSample, LengthsDiffer, TooLong, BadState}

-- the refusal that has a number, from 1, and a place
abbrev numbered : ℕ → ℕ → Refusal
numbered n i = get_or (BadState ∷ NoSetting ∷ NoBand ∷ OutOfRange ∷ BadWorkedNumber ∷ BadRate ∷ BadSample i ∷ LengthsDiffer ∷ TooLong ∷ []) n BadState

back : (r : Refusal) → numbered (number r) (place r) ≡ r
back NoSetting = refl
back NoBand = refl
back OutOfRange = refl
back BadWorkedNumber = refl
back BadRate = refl
back (BadSample i) = refl
back LengthsDiffer = refl
back TooLong = refl
back BadState = refl

pub one-to-one : (q r : Refusal) → number q ≡ number r → place q ≡ place r → q ≡ r
one-to-one q r n i = cc (back q, back r)

-- 0 is done
pub never_nought : (r : Refusal) → 0 ≡ number r → ⊥
never_nought NoSetting e = omega arith
never_nought NoBand e = omega arith
never_nought OutOfRange e = omega arith
never_nought BadWorkedNumber e = omega arith
never_nought BadRate e = omega arith
never_nought (BadSample i) e = omega arith
never_nought LengthsDiffer e = omega arith
never_nought TooLong e = omega arith
never_nought BadState e = omega arith

pub not_done : (r : Refusal) → eqb (number r) 0 ≡ false
not_done r = ne_eqb (number r) 0 (λ e. never_nought r (sym e))
