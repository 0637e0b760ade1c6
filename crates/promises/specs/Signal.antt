-- What every stage's block promises of a signal: cut into blocks that are all done, it gives the same however it is cut. Statements only.
-- Assumes nothing.
use Rattle.std.specs.Prelude.{◌≡◌, List, [], ◌∷◌, ◌++◌, ℕ, ◌+◌, Float}
use Rattle.answer.specs.Told.{Told}
use Rattle.noise_gate.specs.Calls as gate
use Rattle.eq.specs.Calls as eq
use Rattle.tonestack.specs.Calls as tonestack
use Rattle.multiband_saturator.specs.Calls as saturator
use Rattle.leveller.specs.Calls as leveller
use Rattle.clipper.specs.Block as clipper
use Rattle.clipper.specs.declared.Kind.{Kind}

-- a block as a host lends it: its samples, and what the buffer for its output holds before
pub record Lent : Type 0 where
  pub input : List Float
  pub output : List Float

-- the signal that blocks are, one after the other: there may be none, and each may be empty
abbrev pub joined : List Lent → List Float
joined [] = []
joined (b ∷ bs) = b.input ++ joined bs

module _ {S : Type 0} (block : S → List Float → List Float → Told S × List Float) where
  -- each block in the state that the one before it left: all are done
  abbrev pub AllDone : S → List Lent → Type 0
  AllDone s [] = Unit {0}
  AllDone s (b ∷ bs) = ((block s b.input b.output).0.number ≡ 0) × AllDone (block s b.input b.output).0.state bs

  -- the state that the last leaves
  abbrev pub left : S → List Lent → S
  left s [] = s
  left s (b ∷ bs) = left (block s b.input b.output).0.state bs

  -- what the buffers hold afterwards, one after the other
  abbrev pub given : S → List Lent → List Float
  given s [] = []
  given s (b ∷ bs) = (block s b.input b.output).1 ++ given (block s b.input b.output).0.state bs

  -- the counts' sum
  abbrev pub counted : S → List Lent → ℕ
  counted s [] = 0
  counted s (b ∷ bs) = (block s b.input b.output).0.count + counted (block s b.input b.output).0.state bs

  -- one signal cut in two ways
  pub record AnyCut : Type 0 where
    pub state : (s : S) (bs cs : List Lent) → AllDone s bs → AllDone s cs → joined bs ≡ joined cs → left s bs ≡ left s cs
    pub outputs : (s : S) (bs cs : List Lent) → AllDone s bs → AllDone s cs → joined bs ≡ joined cs → given s bs ≡ given s cs
    pub count : (s : S) (bs cs : List Lent) → AllDone s bs → AllDone s cs → joined bs ≡ joined cs → counted s bs ≡ counted s cs

-- ---- the clipper has no state: all are done, and what the buffers hold afterwards
module _ (kind : Kind) (drive : Float) where
  abbrev pub AllClipped : List Lent → Type 0
  AllClipped [] = Unit {0}
  AllClipped (b ∷ bs) = ((clipper.block kind drive b.input b.output).number ≡ 0) × AllClipped bs

  abbrev pub clipped : List Lent → List Float
  clipped [] = []
  clipped (b ∷ bs) = (clipper.block kind drive b.input b.output).state ++ clipped bs

pub record Signals : Type 0 where
  pub noise_gate : AnyCut gate.block
  pub equaliser : AnyCut eq.block
  pub tone_stack : AnyCut tonestack.block
  pub saturator : AnyCut saturator.block
  pub leveller : AnyCut leveller.block
  pub clipper : (kind : Kind) (drive : Float) (bs cs : List Lent) → AllClipped kind drive bs → AllClipped kind drive cs → joined bs ≡ joined cs → clipped kind drive bs ≡ clipped kind drive cs
