-- Document 02's W10, how long it has been quiet: what the quiet count means in a gate that a host carries from call to call, in demand 3's words, and that nothing else looks at it. A quoted line is W10's.
-- The statements are `OneFigure`, `Quiet`, `Loaded`, `Unheard` and `Stays`; `proofs/Quiet.antt` and `proofs/Unheard.antt` prove them. Definitions only. Assumes nothing.
use Rattle.std.specs.Prelude.{◌≡◌, ◌↔◌, ◌⊎◌, List, [], ◌∷◌, ◌++◌, ℕ, ◌<◌, min, T, length, Float}
use Rattle.answer.specs.Told.{Told, where_done}
use Rattle.noise_gate_sample.specs.Figures.{longest_quiet}
use Rattle.noise_gate.specs.Calls.{gate_of, make, load, block, block_recorded}
use Rattle.silence.specs.History.{Call, Block, SetTyped, Set, Reset, answered, carried, Sample, all_f32, InF32, SettingsF32}
use Rattle.silence.specs.Demand3.{history, Loud, NoneLoud, Each, Silence}
use Rattle.noise_gate.specs.declared.Gate.{Gate}
use Rattle.noise_gate.specs.declared.Before.{Before}

-- ---- of the samples h, the latest loud one, and those later than it
pub record Latest (h later : List Sample) : Type 0 where
  pub it : Sample
  pub earlier : List Sample
  pub is : h ≡ later ++ (it ∷ earlier)
  pub loud : Loud it
  pub latest : NoneLoud later

-- "the count of samples since the latest loud one, or since making or reset if that is later": where none was loud since, all of them. It "stops at 4,294,967,295", and else is "exactly the distance"
pub record QuietFor (h : List Sample) (n : ℕ) : Type 0 where
  pub later : List Sample
  pub since : Latest h later ⊎ ((h ≡ later) × NoneLoud h)
  pub figure : n ≡ min (length later) longest_quiet

-- there is one such figure
abbrev pub OneFigure : Type 0
OneFigure = (h : List Sample) (m n : ℕ) → QuietFor h m → QuietFor h n → m ≡ n

-- ---- what a call's answer t carries: "The block's answer carries its figure after the last sample." A refusal carries 0, and so does any other call
abbrev pub carried_by : Call → Told Gate → ℕ
carried_by (Block xs out) t = where_done t t.state.registers.quiet 0
carried_by (SetTyped s) t = 0
carried_by (Set name v w) t = 0
carried_by Reset t = 0

-- ---- of a gate g after the calls cs, whichever call comes next
pub record Quieted (g : Gate) (cs : List Call) : Type 0 where
  pub count : QuietFor (history g cs []) (carried g cs).registers.quiet
  pub told : (c : Call) → let t = answered (carried g cs) c in t.quiet ≡ carried_by c t

-- ---- how the gate aims at the sample e, n being the quiet count after it: open exactly if some sample since making or the last reset was loud, and n is 0 or below H, the hold in samples in force at the latest such.
-- Just after a reset the count is 0 too, and no sample was loud
pub record Near (e : Sample) (past : List Sample) (n : ℕ) : Type 0 where
  pub later : List Sample
  pub one : Latest (e ∷ past) later
  pub near : (n ≡ 0) ⊎ (n < one.it.hold)

abbrev pub AimsBy : Sample → List Sample → Type 0
AimsBy e past = (n : ℕ) → QuietFor (e ∷ past) n → T e.aim ↔ Near e past n

-- ---- a gate whose making was done, and any calls
abbrev pub Quiet : Type 0
Quiet =
    (rate rising falling : Float) → T (all_f32 (rate ∷ rising ∷ falling ∷ [])) → (make rate rising falling).number ≡ 0
    → (cs : List Call) → InF32 cs → let g = (make rate rising falling).state in Quieted g cs × Each AimsBy (history g cs [])

-- ---- "A kept state from before has no such count and loads with 0": whatever state it is, 9 accepting it or not, the count is that of the samples since
abbrev pub Loaded : Type 0
Loaded =
    (b : Before) → SettingsF32 b.settings → T (all_f32 (b.registers.level ∷ b.registers.state ∷ []))
    → (cs : List Call) → InF32 cs → Quieted (load b) cs

-- ---- a gate with the quiet count n for its own
abbrev pub with_quiet : ℕ → Gate → Gate
with_quiet n g = let m = g.registers in gate_of g.settings (record { level = m.level; state = m.state; counter = m.counter; quiet = n })

-- what is told, but for quiet counts: the gate's and the answer's
abbrev pub but_quiet : Told Gate → Told Gate
but_quiet t = record { state = with_quiet 0 t.state; number = t.number; place = t.place; count = t.count; value = t.value; samples = t.samples; word = t.word; quiet = 0 }

-- of two gates, after the calls cs: the next call tells and writes the same, 9 too, for "any count is acceptable to 9"; and so does a block with a record; and the samples so far are the same
pub record Alike (g h : Gate) (cs : List Call) : Type 0 where
  pub next : (c : Call) → but_quiet (answered (carried g cs) c) ≡ but_quiet (answered (carried h cs) c)
  pub written : (xs out : List Float) → (block (carried g cs) xs out).1 ≡ (block (carried h cs) xs out).1
  pub recorded : (xs out : List Float) (aims : List ℕ) → let t = block_recorded (carried g cs) xs out aims in let u = block_recorded (carried h cs) xs out aims in
      (but_quiet t.0 ≡ but_quiet u.0) × (t.1 ≡ u.1) × (t.2 ≡ u.2)
  pub samples : (past : List Sample) → history g cs past ≡ history h cs past

-- no other register, output or count depends on the quiet count: with another, a gate goes through any calls as it would have
abbrev pub Unheard : Type 0
Unheard = (g : Gate) (n : ℕ) (cs : List Call) → Alike g (with_quiet n g) cs

-- so "Demand 3 reads as before", whatever the quiet count is
abbrev pub Stays : Type 0
Stays = (g : Gate) (n : ℕ) (cs : List Call) → Silence g cs → Silence (with_quiet n g) cs
