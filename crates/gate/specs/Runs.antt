-- What the program's functions leave: a block's turn, and a run of turns from the program's gate to the end of its input. Definitions only.
-- Which bytes are read and whether a write fails are the world's, so a turn is the one that some block gives, or something failed. Assumes nothing.
use Rattle.std.specs.Prelude.{◌≡◌, ℕ, ◌-◌, ◌^◌, ◌≤◌, List, ◌++◌, length, take, drop, Result, Ok, Err, IfOk, ⊤}
use Rattle.pcm_gate.specs.Pass.{pass}
use Rattle.pcm_gate.specs.Turns.{Run, begun, counted, turned, after, ended, block_bytes, Full}
use Rattle.gate.specs.declared.Turn.{Turn}
use Rattle.gate.specs.declared.Failed as declared
use Rattle.gate.specs.declared.Stopped.{Stopped}
use Rattle.gate.specs.declared.Stopped.TheVariants.{Failed, Unended}

-- ---- a turn is a run so far
abbrev pub run_of : Turn → Run
run_of t = record { gate = t.gate; samples = t.samples; aimed = t.aimed }

abbrev pub turn_of : Run → Turn
turn_of t = record { gate = t.gate; samples = t.samples; aimed = t.aimed }

-- a block handed to `pass`, done and written: the run that it tells of
pub record Done (t : Turn) (b out : List ℕ) (r : Turn) : Type 0 where
  pub number : (pass t.gate b out).0.number ≡ 0
  pub turn : r ≡ turn_of (counted (run_of t) (pass t.gate b out).0 (length out))

-- so many bytes at the start of a buffer handed to `pass`: the turn, and what the buffer for the output holds before and after it
pub record Over (t : Turn) (input before output : List ℕ) (r : Turn × ℕ) : Type 0 where
  pub most : r.1 ≤ length input
  pub turn : r.0 ≡ turn_of (turned (run_of t) (take r.1 input))
  pub given : output ≡ (pass t.gate (take r.1 input) (take r.1 before)).1 ++ drop r.1 before

-- ---- a turn: some block of so many bytes
pub record Went (t : Turn) (r : Turn × ℕ) : Type 0 where
  pub block : List ℕ
  pub long : length block ≡ r.1
  pub most : r.1 ≤ block_bytes
  pub turn : r.0 ≡ turn_of (turned (run_of t) block)

abbrev pub OneTurn : Turn → Result (Turn × ℕ) declared.Failed → Type 0
OneTurn t r = IfOk r (Went t)

-- ---- a run of turns: so many full blocks; and full blocks and a last one, where the input has ended
pub record Through (t : Turn) (turns : ℕ) : Type 0 where
  pub blocks : List (List ℕ)
  pub full : Full blocks
  pub many : length blocks ≡ turns
  pub run : run_of t ≡ after begun blocks

pub record AtEnd (t : Turn) : Type 0 where
  pub blocks : List (List ℕ)
  pub full : Full blocks
  pub last : List ℕ
  pub run : run_of t ≡ ended blocks last

abbrev pub most_turns : ℕ
most_turns = 2 ^ 64 - 1

-- it stops before the end only where something failed or no turn is left
abbrev pub Along : Result Turn Stopped → Type 0
Along (Ok t) = AtEnd t
Along (Err Failed) = ⊤
Along (Err (Unended t)) = Through t most_turns

-- ---- the two counts that it says: those of some full blocks and a last one
pub record Said (samples aimed : ℕ) : Type 0 where
  pub blocks : List (List ℕ)
  pub last : List ℕ
  pub full : Full blocks
  pub counts : (samples ≡ (ended blocks last).samples) × (aimed ≡ (ended blocks last).aimed)
