-- Demand 3, silence: what is promised of a made gate that a host carries from call to call, through any list of blocks, settings, resets and refused calls. A quoted line is the mission's.
-- The statement is `Demand3`, at the end; `proofs/Silence.antt` proves it. Definitions only. Assumes nothing.
use Rattle.std.specs.Prelude.{◌≡◌, ◌↔◌, ◌⊎◌, cond, List, [], ◌∷◌, ◌++◌, ℕ, suc, ◌^◌, ◌<◌, T, length, Float}
use Rattle.std.specs.Float.Ieee.{lt, le}
use Rattle.rounding.specs.Casts.{absolute}
use Rattle.answer.specs.Figures.{f32, nought, one}
use Rattle.answer.specs.Told.{where_done}
use Rattle.noise_gate.specs.Calls.{make, block}
use Rattle.silence.specs.History.{Call, Block, SetTyped, Set, Reset, answered, carried, Sample, heard, all_f32, InF32}
use Rattle.noise_gate.specs.declared.Gate.{Gate}

-- ---- the samples that count after a call on g, past being those before it: "samples of refused blocks don't count". A block that is done adds its own, a reset that is done forgets all
unfoldable pub samples_after : Gate → Call → List Sample → List Sample
samples_after g (Block xs out) past = where_done (answered g (Block xs out)) (heard g.settings g.registers xs past) past
samples_after g (SetTyped t) past = past
samples_after g (Set name v w) past = past
samples_after g Reset past = where_done (answered g Reset) [] past

-- those "since making or the last reset", the latest first
unfoldable pub history : Gate → List Call → List Sample → List Sample
history g [] past = past
history g (c ∷ cs) past = history (answered g c).state cs (samples_after g c past)

-- ---- 1. "a sample is loud if the level after it is above the threshold's linear factor then in force"
abbrev pub Loud : Sample → Type 0
Loud e = T (lt e.factor e.level)

abbrev pub NoneLoud : List Sample → Type 0
NoneLoud [] = Unit {0}
NoneLoud (e ∷ es) = (¬ Loud e) × NoneLoud es

-- ---- 2. of the sample e and those before it: "some sample since making or the last reset was loud and the latest such is this one or fewer than H back,
-- H being the hold in samples in force at that loud one". It is as many back as there are later ones
pub record Held (e : Sample) (past : List Sample) : Type 0 where
  pub later : List Sample
  pub it : Sample
  pub earlier : List Sample
  pub is : e ∷ past ≡ later ++ (it ∷ earlier)
  pub loud : Loud it
  pub latest : NoneLoud later
  pub near : (length later ≡ 0) ⊎ (length later < it.hold)

-- the state that these samples end in: 0 where a gate was made or reset and has taken none
abbrev pub left_at : List Sample → Float
left_at [] = nought
left_at (e ∷ past) = e.state

pub record Promised (e : Sample) (past : List Sample) : Type 0 where
  -- "the gate aims open at a sample exactly if" it is held
  pub aims : T e.aim ↔ Held e past
  -- 3. "aiming closed, its state falls strictly while it was above 2^-126, and from there down never rises; aiming open, it never falls"
  pub was : e.before ≡ left_at past
  pub falls : ¬ T e.aim → T (lt (f32 1 (2 ^ 126)) e.before) → T (lt e.state e.before)
  pub never_rises : ¬ T e.aim → T (le e.state e.before)
  pub never_falls : T e.aim → T (le e.before e.state)
  -- 4. "state stays from 0 to 1, no output is larger in size than its input"; and document 01: "gain at most 1, rounding included"
  pub from_0 : T (le nought e.state)
  pub to_1 : T (le e.state one)
  pub gain_to_1 : T (le e.gain one)
  pub quieter : T (le (absolute e.output) (absolute e.input))

abbrev pub Each : (Sample → List Sample → Type 0) → List Sample → Type 0
Each P [] = Unit {0}
Each P (e ∷ past) = P e past × Each P past

unfoldable pub aimed_open : List Sample → ℕ
aimed_open [] = 0
aimed_open (e ∷ past) = let n = aimed_open past in cond e.aim (suc n) n

-- their outputs, the earliest first
abbrev pub outputs_of : List Sample → List Float → List Float
outputs_of [] ys = ys
outputs_of (e ∷ past) ys = outputs_of past (e.output ∷ ys)

-- ---- of a gate g after the calls cs, whichever call comes next
pub record Silence (g : Gate) (cs : List Call) : Type 0 where
  pub each : Each Promised (history g cs [])
  pub state : (carried g cs).registers.state ≡ left_at (history g cs [])
  -- 5. "the reported open count is the number of samples aimed open"
  pub count : (c : Call) → (answered (carried g cs) c).count ≡ aimed_open (samples_after (carried g cs) c [])
  -- and the outputs of a done block's samples are what it writes
  pub written : (xs out : List Float) → let t = block (carried g cs) xs out in t.1 ≡ where_done t.0 (outputs_of (samples_after (carried g cs) (Block xs out) []) []) out

-- ---- demand 3: a gate whose making was done, and any calls
abbrev pub Demand3 : Type 0
Demand3 =
    (rate rising falling : Float) → T (all_f32 (rate ∷ rising ∷ falling ∷ [])) → (make rate rising falling).number ≡ 0
    → (cs : List Call) → InF32 cs → Silence (make rate rising falling).state cs

-- and it speaks of something: at 48,000 Hz a gate is made
abbrev pub SomeMade : Type 0
SomeMade = (make (f32 48000 1) nought nought).number ≡ 0
