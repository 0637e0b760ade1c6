-- What the multiband saturator promises, in document 01's words. Statements only.
-- Assumes nothing.
use Rattle.std.specs.Prelude.{◌≡◌, true, List, [], ◌∷◌, ℕ, Float, Result, ⊤}
use Rattle.answer.specs.Blocks.{BlockUnchanged}
use Rattle.answer.specs.declared.Refusal.{Refusal}
use Rattle.answer.specs.Told.{refused, told, told_read, Unchanged}
use Rattle.answer.specs.declared.Refusal.TheVariants.{BadState}
use Rattle.multiband_saturator_settings.specs.Ranges.{settable}
use Rattle.multiband_saturator_settings.specs.declared.Crossover.{Crossover}
use Rattle.multiband_saturator_settings.specs.declared.Setting.{Setting}
use Rattle.multiband_saturator.specs.Calls as calls
use Rattle.multiband_saturator.specs.Calls.{unmade}
use Rattle.multiband_saturator.specs.declared.Saturator.{Saturator}

-- "No refusal changes a state or an output buffer."
pub record Refusals : Type 0 where
  pub set_typed : (s : Saturator) (t : Setting) → Unchanged s (calls.set_typed s t)
  pub set : (s : Saturator) (name : List ℕ) (v : Float) (c : Crossover) → Unchanged s (calls.set s name v c)
  pub read : (s : Saturator) (name : List ℕ) → Unchanged s (calls.read s name)
  pub reset : (s : Saturator) → Unchanged s (calls.reset s)
  pub block : (s : Saturator) (xs out : List Float) → BlockUnchanged s out (calls.block s xs out)

-- "A refused making gives a state whose numbers are all 0, the rate too, which 9 refuses ever after."
pub record Unmade : Type 0 where
  pub make : (rate : Float) (low high : Crossover) (attack release blocker : Float) → Unchanged unmade (calls.make rate low high attack release blocker)
  pub set_typed : (t : Setting) → calls.set_typed unmade t ≡ refused unmade BadState
  pub set : (name : List ℕ) (v : Float) (c : Crossover) → calls.set unmade name v c ≡ refused unmade BadState
  pub read : (name : List ℕ) → calls.read unmade name ≡ refused unmade BadState
  pub reset : calls.reset unmade ≡ refused unmade BadState
  pub block : (xs out : List Float) → calls.block unmade xs out ≡ (refused unmade BadState, out)

-- 9 is given to a state that couldn't have been set or made, and to no other: it accepts what making and every call leave
pub record Accepted : Type 0 where
  pub make : (rate : Float) (low high : Crossover) (attack release blocker : Float) → (calls.make rate low high attack release blocker).number ≡ 0 → settable (calls.make rate low high attack release blocker).state.settings ≡ true
  pub set_typed : (s : Saturator) (t : Setting) → settable s.settings ≡ true → settable (calls.set_typed s t).state.settings ≡ true
  pub set : (s : Saturator) (name : List ℕ) (v : Float) (c : Crossover) → settable s.settings ≡ true → settable (calls.set s name v c).state.settings ≡ true
  pub reset : (s : Saturator) → settable (calls.reset s).state.settings ≡ settable s.settings
  pub block : (s : Saturator) (xs out : List Float) → settable (calls.block s xs out).0.state.settings ≡ settable s.settings

-- ---- 9 is given wherever "a state's settings, rate or worked numbers couldn't have been set or made": what it accepts are settings that a making that is done and some list of settings leave. Registers may hold any bits
-- settings, one after the other
abbrev pub set_all : Saturator → List Setting → Saturator
set_all s [] = s
set_all s (t ∷ ts) = set_all (calls.set_typed s t).state ts

pub record ByCalls (s : Saturator) : Type 0 where
  pub rate : Float
  pub low : Crossover
  pub high : Crossover
  pub attack : Float
  pub release : Float
  pub blocker : Float
  pub sets : List Setting
  pub made : (calls.make rate low high attack release blocker).number ≡ 0
  pub same : (set_all (calls.make rate low high attack release blocker).state sets).settings ≡ s.settings

pub record Exactly : Type 0 where
  pub could_be_set : (s : Saturator) → settable s.settings ≡ true → ByCalls s

-- "Reset sets them to 0 and keeps settings"; a block keeps them too; at a setting "registers stay"
pub record Kept : Type 0 where
  pub reset : (s : Saturator) → (calls.reset s).state.settings ≡ s.settings
  pub block : (s : Saturator) (xs out : List Float) → (calls.block s xs out).0.state.settings ≡ s.settings
  pub set_typed : (s : Saturator) (t : Setting) → (calls.set_typed s t).state.registers ≡ s.registers

-- no two answers tell the same: what a call tells gives its saturator and its answer back
pub record Answers : Type 0 where
  pub answer : (s t : Saturator) (a b : Result ⊤ Refusal) → told s a ≡ told t b → (s ≡ t) × (a ≡ b)
  pub reading : (s t : Saturator) (a b : Result Float Refusal) → told_read s a ≡ told_read t b → (s ≡ t) × (a ≡ b)
