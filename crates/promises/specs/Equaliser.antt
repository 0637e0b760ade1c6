-- What the equaliser promises, in document 01's words. Statements only.
-- Assumes nothing.
use Rattle.std.specs.Prelude.{◌≡◌, true, List, [], ◌∷◌, ℕ, T, length, Float, Result, ⊤}
use Rattle.std.specs.Float.{binary64}
use Rattle.std.specs.Float.Ieee.{fits}
use Rattle.answer.specs.Blocks.{BlockUnchanged}
use Rattle.answer.specs.declared.Refusal.{Refusal}
use Rattle.answer.specs.Told.{Told, refused, told, told_read, Unchanged}
use Rattle.answer.specs.declared.Decibels.{Decibels}
use Rattle.answer.specs.declared.Refusal.TheVariants.{BadState}
use Rattle.eq_bands.specs.declared.Numbers.{Numbers}
use Rattle.eq_bands.specs.declared.Band.{Band}
use Rattle.eq.specs.States.{acceptable, unmade, band_at, delay_at}
use Rattle.eq.specs.Calls as calls
use Rattle.eq.specs.declared.Equaliser.{Equaliser}

-- "No refusal changes a state or an output buffer."
pub record Refusals : Type 0 where
  pub set_band : (e : Equaliser) (i : ℕ) (value : Decibels) (numbers : Numbers) → Unchanged e (calls.set_band e i value numbers)
  pub set : (e : Equaliser) (name : List ℕ) (value : Decibels) (numbers : Numbers) → Unchanged e (calls.set e name value numbers)
  pub read : (e : Equaliser) (name : List ℕ) → Unchanged e (calls.read e name)
  pub reset : (e : Equaliser) → Unchanged e (calls.reset e)
  pub block : (e : Equaliser) (xs out : List Float) → BlockUnchanged e out (calls.block e xs out)

-- "A refused making gives a state whose numbers are all 0, the rate too, which 9 refuses ever after."
pub record Unmade : Type 0 where
  pub make : (rate : Float) → Unchanged unmade (calls.make rate)
  pub set_band : (i : ℕ) (value : Decibels) (numbers : Numbers) → calls.set_band unmade i value numbers ≡ refused unmade BadState
  pub set : (name : List ℕ) (value : Decibels) (numbers : Numbers) → calls.set unmade name value numbers ≡ refused unmade BadState
  pub read : (name : List ℕ) → calls.read unmade name ≡ refused unmade BadState
  pub reset : calls.reset unmade ≡ refused unmade BadState
  pub block : (xs out : List Float) → calls.block unmade xs out ≡ (refused unmade BadState, out)

-- 9 strikes no equaliser that was made: it accepts what a making that is done and every later call leave
pub record Accepted : Type 0 where
  pub make : (rate : Float) → (calls.make rate).number ≡ 0 → acceptable (calls.make rate).state ≡ true
  pub set_band : (e : Equaliser) (i : ℕ) (value : Decibels) (numbers : Numbers) → acceptable e ≡ true → acceptable (calls.set_band e i value numbers).state ≡ true
  pub set : (e : Equaliser) (name : List ℕ) (value : Decibels) (numbers : Numbers) → acceptable e ≡ true → acceptable (calls.set e name value numbers).state ≡ true
  pub reset : (e : Equaliser) → acceptable (calls.reset e).state ≡ acceptable e
  pub block : (e : Equaliser) (xs out : List Float) → acceptable (calls.block e xs out).0.state ≡ acceptable e

-- ---- 9 is given wherever "a state's settings, rate or worked numbers couldn't have been set or made": what it accepts are settings that a making that is done and some list of settings leave. Registers may hold any bits
-- a setting of one band
pub record BandSet : Type 0 where
  pub band : ℕ
  pub value : Decibels
  pub numbers : Numbers

-- settings, one after the other
abbrev pub set_all : Equaliser → List BandSet → Equaliser
set_all e [] = e
set_all e (c ∷ cs) = set_all (calls.set_band e c.band c.value c.numbers).state cs

pub record ByCalls (e : Equaliser) : Type 0 where
  pub rate : Float
  pub sets : List BandSet
  pub made : (calls.make rate).number ≡ 0
  pub same : (set_all (calls.make rate).state sets).settings ≡ e.settings

-- the five numbers of every band are f64s: a float of the logic may be none
abbrev pub NumbersF64 : Numbers → Type 0
NumbersF64 n = T (fits binary64 n.b0) × T (fits binary64 n.b1) × T (fits binary64 n.b2) × T (fits binary64 n.a1) × T (fits binary64 n.a2)

abbrev pub InF64 : List Band → Type 0
InF64 [] = Unit {0}
InF64 (b ∷ bs) = NumbersF64 b.numbers × InF64 bs

-- the code's array has sixteen bands; a list of the logic may have any number
pub record Exactly : Type 0 where
  pub could_be_set : (e : Equaliser) → length e.settings.bands ≡ 16 → InF64 e.settings.bands → acceptable e ≡ true → ByCalls e

-- band j and its registers are as they were
pub record Other (e : Equaliser) (j : ℕ) (t : Told Equaliser) : Type 0 where
  pub band : band_at t.state j ≡ band_at e j
  pub delay : delay_at t.state j ≡ delay_at e j

-- a setting of one band leaves the others; reset keeps the settings, and so does a block
pub record Kept : Type 0 where
  pub others : (e : Equaliser) (i j : ℕ) (value : Decibels) (numbers : Numbers) → (j ≡ i → ⊥) → Other e j (calls.set_band e i value numbers)
  pub reset : (e : Equaliser) → (calls.reset e).state.settings ≡ e.settings
  pub block : (e : Equaliser) (xs out : List Float) → (calls.block e xs out).0.state.settings ≡ e.settings

-- no two answers tell the same: what a call tells gives its equaliser and its answer back
pub record Answers : Type 0 where
  pub answer : (e f : Equaliser) (a b : Result ⊤ Refusal) → told e a ≡ told f b → (e ≡ f) × (a ≡ b)
  pub reading : (e f : Equaliser) (a b : Result Float Refusal) → told_read e a ≡ told_read f b → (e ≡ f) × (a ≡ b)
