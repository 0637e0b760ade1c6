-- What a call of any stage tells, of what the stage says of itself: 9 before all else, and then what is done or refused. Definitions only.
-- Assumes nothing.
use Rattle.std.specs.Prelude.{Bool, Float, Option, Some, None, Result, Ok, Err, ⊤}
use Rattle.answer.specs.Told.{Told, refused, done_with, unless}
use Rattle.answer.specs.declared.Refusal.{Refusal}
use Rattle.answer.specs.declared.Refusal.TheVariants.{NoSetting, BadState}

-- what is told of a call that left s: what `says` has of an answer, or the refusal
abbrev pub told_by : {S A : Type 0} → (S → A → Told S) → S → Result A Refusal → Told S
told_by says s (Ok x) = says s x
told_by says s (Err r) = refused s r

-- a value read
abbrev pub valued : {S : Type 0} → S → Float → Told S
valued s x = done_with s 0 x

-- the setting that a name asks for, and 1 where there is none
abbrev pub found : {S T : Type 0} → S → (T → Told S) → Option T → Told S
found s rest (Some t) = rest t
found s rest None = refused s NoSetting

-- ---- of a state s that 9 accepts or not
module _ {S : Type 0} (accepts : S → Bool) (s : S) where
  -- 9, and then what is left
  abbrev pub checked : Told S → Told S
  checked rest = unless (accepts s) (refused s BadState) rest

  -- 9, what refuses the setting, and then what it leaves and says
  abbrev pub setting : {A : Type 0} → (S → A → Told S) → Result ⊤ Refusal → S × A → Told S
  setting says vetted taken = checked (told_by (λ _ _. says taken.0 taken.1) s vetted)
