-- What the noise gate promises, in document 01's words; what silence means is a page of its own, the crate `silence`. Statements only.
-- Assumes nothing.
use Rattle.std.specs.Prelude.{◌≡◌, ◌↔◌, true, not, List, [], ◌∷◌, ℕ, ◌≤◌, T, Float, Result, ⊤, Option}
use Rattle.std.specs.Float.Ieee.{eq}
use Rattle.float.specs.Truncating.{itself}
use Rattle.answer.specs.Names.{bytes}
use Rattle.noise_gate.specs.declared.Passed.{Passed}
use Rattle.float.specs.declared.Truncation.{Truncation}
use Rattle.answer.specs.declared.Refusal.{Refusal}
use Rattle.answer.specs.Told.{Told, refused, told, told_read, Unchanged}
use Rattle.answer.specs.Blocks.{BlockUnchanged}
use Rattle.answer.specs.declared.Refusal.TheVariants.{BadState}
use Rattle.noise_gate_sample.specs.Step.{hold_product, hold_samples, loud, counter}
use Rattle.noise_gate_sample.specs.declared.Registers.{Registers}
use Rattle.noise_gate_settings.specs.declared.Settings.{Settings}
use Rattle.noise_gate_settings.specs.declared.Setting.{Setting}
use Rattle.noise_gate_settings.specs.declared.Setting.TheVariants.{Threshold, Hold}
use Rattle.noise_gate.specs.Figures.{longest_count}
use Rattle.noise_gate.specs.Bounds.{in_bounds, acceptable}
use Rattle.noise_gate.specs.Answers.{told_set, told_block}
use Rattle.noise_gate.specs.Calls as calls
use Rattle.noise_gate.specs.declared.Gate.{Gate}
use Rattle.silence.specs.History.{Call, answered, carried, all_f32, InF32, SettingsF32}

-- "No refusal changes a state or an output buffer."
pub record Refusals : Type 0 where
  pub set_typed : (g : Gate) (t : Setting) → Unchanged g (calls.set_typed g t)
  pub set : (g : Gate) (name : List ℕ) (v w : Float) → Unchanged g (calls.set g name v w)
  pub read : (g : Gate) (name : List ℕ) → Unchanged g (calls.read g name)
  pub reset : (g : Gate) → Unchanged g (calls.reset g)
  pub block : (g : Gate) (xs out : List Float) → BlockUnchanged g out (calls.block g xs out)

-- "A refused making gives a state whose numbers are all 0, the rate too, which 9 refuses ever after."
pub record Unmade : Type 0 where
  pub make : (rate rising falling : Float) → Unchanged calls.unmade (calls.make rate rising falling)
  pub set_typed : (t : Setting) → calls.set_typed calls.unmade t ≡ refused calls.unmade BadState
  pub set : (name : List ℕ) (v w : Float) → calls.set calls.unmade name v w ≡ refused calls.unmade BadState
  pub read : (name : List ℕ) → calls.read calls.unmade name ≡ refused calls.unmade BadState
  pub reset : calls.reset calls.unmade ≡ refused calls.unmade BadState
  pub block : (xs out : List Float) → calls.block calls.unmade xs out ≡ (refused calls.unmade BadState, out)

-- 9 refuses no gate that could have been set or made: a gate whose making was done is accepted after any calls. And H of a gate that it accepts is at most the counter's bound
pub record Accepted : Type 0 where
  pub carried_on : (rate rising falling : Float) → T (all_f32 (rate ∷ rising ∷ falling ∷ [])) → (calls.make rate rising falling).number ≡ 0
      → (cs : List Call) → InF32 cs → T (acceptable (carried (calls.make rate rising falling).state cs))
  pub hold_in_samples : (g : Gate) → T (acceptable g) → SettingsF32 g.settings → hold_samples g.settings ≤ longest_count

-- settings, rate and worked numbers that could have been "set or made": those of a gate whose making was done, after some calls
pub record Reached (s : Settings) : Type 0 where
  pub rate : Float
  pub rising : Float
  pub falling : Float
  pub made : (calls.make rate rising falling).number ≡ 0
  pub since : List Call
  pub left : (carried (calls.make rate rising falling).state since).settings ≡ s
  -- by f32s, where these are
  pub by_f32 : SettingsF32 s → T (all_f32 (rate ∷ rising ∷ falling ∷ [])) × InF32 since

-- 9 is given "exactly when .. a state's settings, rate or worked numbers couldn't have been set or made, or the gate's level, state or counter is out of bounds"
pub record Exactly : Type 0 where
  pub nine : (g : Gate) → T (acceptable g) ↔ (Reached g.settings × T (in_bounds g.registers))

-- "Decibels and linear factors are kept apart ..; neither is ever accepted for the other." By name both are bare numbers: none is accepted both as dB and as factor, by whichever gates, so no pair of them both ways round
pub record OneWay : Type 0 where
  pub set_typed : (g h : Gate) (x y z : Float) → (calls.set_typed g (Threshold (record { 0 = x }) (record { 0 = y }))).number ≡ 0
      → (calls.set_typed h (Threshold (record { 0 = z }) (record { 0 = x }))).number ≡ 0 → ⊥
  pub set : (g h : Gate) (x y z : Float) → (calls.set g (bytes "threshold") x y).number ≡ 0 → (calls.set h (bytes "threshold") z x).number ≡ 0 → ⊥

-- ---- document 02's W9: "The hold setting's answer passes this on as "exact" or "cut", so the page can show the trainer the samples she gets". What a done hold setting tells:
pub record HoldSaid (t : Told Gate) : Type 0 where
  -- the samples, to which the counter is set by whatever sample is loud from then on
  pub samples : (m : Registers) (x : Float) → loud t.state.settings m x ≡ true → counter t.state.settings m x ≡ t.samples
  -- the word: 1, "exact", where they equal (hold*0.001)*rate, each product rounded, and else 2, "cut"
  pub exact : (t.word ≡ 1) ↔ T (eq (itself t.samples) (hold_product t.state.settings))
  pub cut : (t.word ≡ 2) ↔ T (not (eq (itself t.samples) (hold_product t.state.settings)))

pub record HoldTold : Type 0 where
  pub typed : (g : Gate) (ms : Float) → (calls.set_typed g (Hold ms)).number ≡ 0 → HoldSaid (calls.set_typed g (Hold ms))
  pub by_name : (g : Gate) (ms w : Float) → calls.set g (bytes "hold") ms w ≡ calls.set_typed g (Hold ms)
  -- a call that tells a word is done, and tells what setting the hold that its gate then has tells; one that tells none tells no samples either
  pub only : (g : Gate) (c : Call) → ((answered g c).word ≡ 0 → ⊥) → ((answered g c).number ≡ 0) × (answered g c ≡ calls.set_typed g (Hold (answered g c).state.settings.hold))
  pub neither : (g : Gate) (c : Call) → (answered g c).word ≡ 0 → (answered g c).samples ≡ 0

-- no two answers tell the same: what a call tells gives its gate and its answer back
pub record Answers : Type 0 where
  pub answer : (g h : Gate) (a b : Result ⊤ Refusal) → told g a ≡ told h b → (g ≡ h) × (a ≡ b)
  pub setting : (g h : Gate) (a b : Result (Option Truncation) Refusal) → told_set g a ≡ told_set h b → (g ≡ h) × (a ≡ b)
  pub reading : (g h : Gate) (a b : Result Float Refusal) → told_read g a ≡ told_read h b → (g ≡ h) × (a ≡ b)
  pub passage : (g h : Gate) (a b : Result Passed Refusal) → told_block g a ≡ told_block h b → (g ≡ h) × (a ≡ b)
