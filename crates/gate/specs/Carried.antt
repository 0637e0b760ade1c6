-- What a turn and a run of turns take from the input and add to the output, where the bytes of these are known: the blocks are the input's bytes, one after the other, and what they give is written. Definitions only.
-- Of a reader or a writer that doesn't say its bytes nothing is claimed. Assumes nothing.
use Rattle.std.specs.Prelude.{◌≡◌, ℕ, ◌*◌, ◌/◌, ◌<◌, ◌≤◌, List, [], Option, Result, Ok, Err, ⊤, length, take}
use Rattle.std.specs.Io.KnownBytes.{Consumes, Appends, IsAtEnd}
use Rattle.pcm_gate.specs.Turns.{begun, turned, given, joined, after, ended, given_all, Full}
use Rattle.gate.specs.Runs.{run_of, turn_of, most_turns}
use Rattle.gate.specs.declared.Turn.{Turn}
use Rattle.gate.specs.declared.Stopped.{Stopped}
use Rattle.gate.specs.declared.Stopped.TheVariants.{Failed, Unended}

-- the whole samples of a buffer
abbrev pub whole_samples : List ℕ → List ℕ
whole_samples b = take (length b / 2 * 2) b

-- a turn on a buffer of so many bytes: its block is the input's next bytes, and where it doesn't fill the buffer the input's last; what it gives is added to the output
pub record Carried (t : Turn) (size : ℕ) (left rest held now : Option (List ℕ)) (r : Turn × ℕ) : Type 0 where
  pub block : List ℕ
  pub long : length block ≡ r.1
  pub most : r.1 ≤ size
  pub turn : r.0 ≡ turn_of (turned (run_of t) block)
  pub taken : Consumes left rest block
  pub end : r.1 < size → IsAtEnd rest
  pub added : Appends held now (given (run_of t) block)

-- ---- a run of turns from its beginning: so many full blocks; and full blocks and a last one, behind which nothing is left
pub record CarriedThrough (left rest held now : Option (List ℕ)) (t : Turn) (turns : ℕ) : Type 0 where
  pub blocks : List (List ℕ)
  pub full : Full blocks
  pub many : length blocks ≡ turns
  pub run : run_of t ≡ after begun blocks
  pub taken : Consumes left rest (joined blocks [])
  pub added : Appends held now (given_all begun blocks [])

pub record CarriedToEnd (left rest held now : Option (List ℕ)) (t : Turn) : Type 0 where
  pub blocks : List (List ℕ)
  pub full : Full blocks
  pub last : List ℕ
  pub run : run_of t ≡ ended blocks last
  pub taken : Consumes left rest (joined blocks last)
  pub end : IsAtEnd rest
  pub added : Appends held now (given_all begun blocks last)

abbrev pub CarriedAll : Option (List ℕ) → Option (List ℕ) → Option (List ℕ) → Option (List ℕ) → Result Turn Stopped → Type 0
CarriedAll left rest held now (Ok t) = CarriedToEnd left rest held now t
CarriedAll left rest held now (Err Failed) = ⊤
CarriedAll left rest held now (Err (Unended t)) = CarriedThrough left rest held now t most_turns
