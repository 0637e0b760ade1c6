-- What the clipper promises, in document 01's words. Statements only.
-- Assumes nothing.
use Rattle.std.specs.Prelude.{◌≡◌, List, ℕ, suc, ◌<◌, T, length, get_or, Float, Result, ⊤}
use Rattle.std.specs.Float.Ieee.{le}
use Rattle.std.specs.Float.Ieee.Scale.{finite}
use Rattle.answer.specs.Figures.{one}
use Rattle.answer.specs.declared.Refusal.{Refusal}
use Rattle.answer.specs.Told.{told, Unchanged}
use Rattle.clipper.specs.Table.{entry}
use Rattle.clipper.specs.Process.{minus_one, process}
use Rattle.clipper.specs.Block as calls
use Rattle.clipper.specs.declared.Kind.{Kind}

-- "Table rule: first entry -1, last 1, never falling."
pub record TableRule : Type 0 where
  pub first : entry 0 ≡ minus_one
  pub last : entry 255 ≡ one
  pub never_falls : (i : ℕ) → suc i < 256 → T (le (entry i) (entry (suc i)))

-- "No refusal changes a state or an output buffer": a clipper has no state, and its output is what a call changes
pub record Refusals : Type 0 where
  pub block : (kind : Kind) (drive : Float) (input output : List Float) → Unchanged output (calls.block kind drive input output)

-- ---- the output lies from -1 to 1
pub record Between (lowest highest x : Float) : Type 0 where
  pub above : T (le lowest x)
  pub below : T (le x highest)

-- at a place of a block that is done stands the sample's step
pub record Written (kind : Kind) (drive : Float) (input output : List Float) (i : ℕ) (d : Float) : Type 0 where
  pub is : get_or (calls.block kind drive input output).state i d ≡ process kind (get_or input i d) drive
  pub between : Between minus_one one (get_or (calls.block kind drive input output).state i d)

pub record Output : Type 0 where
  pub sample : (kind : Kind) (x drive : Float) → T (finite x) → T (finite drive) → Between minus_one one (process kind x drive)
  pub block : (kind : Kind) (drive : Float) (input output : List Float) → (calls.block kind drive input output).number ≡ 0 → (i : ℕ) (d : Float) → i < length input → Written kind drive input output i d

-- no two answers tell the same: what a block tells gives its output and its answer back
pub record Answers : Type 0 where
  pub answer : (s t : List Float) (a b : Result ⊤ Refusal) → told s a ≡ told t b → (s ≡ t) × (a ≡ b)
