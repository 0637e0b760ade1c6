-- What the tone stack promises, in document 01's words. Statements only.
-- Assumes nothing.
use Rattle.std.specs.Prelude.{◌≡◌, true, List, [], ◌∷◌, ℕ, Float, Result, ⊤}
use Rattle.answer.specs.Blocks.{BlockUnchanged}
use Rattle.answer.specs.declared.Refusal.{Refusal}
use Rattle.answer.specs.Checks.{is_rate}
use Rattle.answer.specs.Told.{refused, told, told_read, Unchanged}
use Rattle.answer.specs.declared.Refusal.TheVariants.{BadState}
use Rattle.common.specs.declared.frequencies.Model.{Model}
use Rattle.tonestack_sample.specs.Models.{number_of, model_of}
use Rattle.tonestack_sample.specs.declared.Setting.{Setting}
use Rattle.tonestack.specs.Calls as calls
use Rattle.tonestack.specs.Calls.{acceptable, unmade}
use Rattle.tonestack.specs.declared.Tone.{Tone}

-- "No refusal changes a state or an output buffer."
pub record Refusals : Type 0 where
  pub set_typed : (t : Tone) (v : Setting) → Unchanged t (calls.set_typed t v)
  pub set : (t : Tone) (name : List ℕ) (v w : Float) → Unchanged t (calls.set t name v w)
  pub read : (t : Tone) (name : List ℕ) → Unchanged t (calls.read t name)
  pub reset : (t : Tone) → Unchanged t (calls.reset t)
  pub block : (t : Tone) (xs out : List Float) → BlockUnchanged t out (calls.block t xs out)

-- "A refused making gives a state whose numbers are all 0, the rate too, which 9 refuses ever after."
pub record Unmade : Type 0 where
  pub make : (model : Model) (rate : Float) → Unchanged unmade (calls.make model rate)
  pub set_typed : (v : Setting) → calls.set_typed unmade v ≡ refused unmade BadState
  pub set : (name : List ℕ) (v w : Float) → calls.set unmade name v w ≡ refused unmade BadState
  pub read : (name : List ℕ) → calls.read unmade name ≡ refused unmade BadState
  pub reset : calls.reset unmade ≡ refused unmade BadState
  pub block : (xs out : List Float) → calls.block unmade xs out ≡ (refused unmade BadState, out)

-- 9 is given where a state's settings, rate or worked numbers couldn't have been set or made: it accepts what making and every call leave
pub record Accepted : Type 0 where
  pub make : (model : Model) (rate : Float) → is_rate rate ≡ true → acceptable (calls.make model rate).state ≡ true
  pub set_typed : (t : Tone) (v : Setting) → acceptable t ≡ true → acceptable (calls.set_typed t v).state ≡ true
  pub set : (t : Tone) (name : List ℕ) (v w : Float) → acceptable t ≡ true → acceptable (calls.set t name v w).state ≡ true
  pub reset : (t : Tone) → acceptable (calls.reset t).state ≡ acceptable t
  pub block : (t : Tone) (xs out : List Float) → acceptable (calls.block t xs out).0.state ≡ acceptable t

-- ---- 9 is given wherever "a state's settings, rate or worked numbers couldn't have been set or made": what it accepts are settings that a making that is done and some list of settings leave. Registers may hold any bits
-- settings, one after the other
abbrev pub set_all : Tone → List Setting → Tone
set_all t [] = t
set_all t (v ∷ vs) = set_all (calls.set_typed t v).state vs

pub record ByCalls (t : Tone) : Type 0 where
  pub model : Model
  pub rate : Float
  pub sets : List Setting
  pub made : (calls.make model rate).number ≡ 0
  pub same : (set_all (calls.make model rate).state sets).settings ≡ t.settings

pub record Exactly : Type 0 where
  pub could_be_set : (t : Tone) → acceptable t ≡ true → ByCalls t

-- "Reset sets them to 0 and keeps settings"; a block keeps them too, and a made tone stack's number is its model's
pub record Kept : Type 0 where
  pub reset : (t : Tone) → (calls.reset t).state.settings ≡ t.settings
  pub block : (t : Tone) (xs out : List Float) → (calls.block t xs out).0.state.settings ≡ t.settings
  pub model : (m : Model) → model_of (number_of m) ≡ m

-- no two answers tell the same: what a call tells gives its tone stack and its answer back
pub record Answers : Type 0 where
  pub answer : (t u : Tone) (a b : Result ⊤ Refusal) → told t a ≡ told u b → (t ≡ u) × (a ≡ b)
  pub reading : (t u : Tone) (a b : Result Float Refusal) → told_read t a ≡ told_read u b → (t ≡ u) × (a ≡ b)
