-- What the leveller promises, in document 02's words, and in 01's where it does as the gate. Statements only.
-- Assumes nothing.
use Rattle.std.specs.Prelude.{◌≡◌, ◌↔◌, false, List, [], ◌∷◌, ℕ, ◌<◌, T, length, take, get_or, Float, Result, ⊤}
use Rattle.std.specs.Float.{binary32}
use Rattle.std.specs.Float.Ieee.{lt, le, mul, div}
use Rattle.std.specs.Float.Ieee.Scale.{finite}
use Rattle.rounding.specs.Casts.{absolute}
use Rattle.root.specs.Root.{root}
use Rattle.root.specs.Nearest.{NearestTo}
use Rattle.answer.specs.Figures.{f32, nought, one}
use Rattle.answer.specs.declared.Refusal.{Refusal}
use Rattle.answer.specs.Checks.{in_range, is_refused}
use Rattle.answer.specs.Names.{bytes}
use Rattle.answer.specs.Told.{refused, told, told_read, Unchanged}
use Rattle.answer.specs.Blocks.{BlockUnchanged}
use Rattle.answer.specs.declared.Refusal.TheVariants.{BadState}
use Rattle.leveller_settings.specs.declared.Settings.{Settings}
use Rattle.leveller_settings.specs.declared.Setting.{Setting}
use Rattle.leveller_settings.specs.declared.Setting.TheVariants.{Threshold}
use Rattle.leveller_sample.specs.Step as step
use Rattle.leveller_sample.specs.declared.Registers.{Registers}
use Rattle.leveller.specs.Bounds.{in_bounds, acceptable}
use Rattle.leveller.specs.Calls as calls
use Rattle.leveller.specs.declared.Leveller.{Leveller}
use Rattle.silence.specs.History.{all_f32}
use Rattle.promises.specs.LevellerCalls.{Call, carried, InF32, SettingsF32}

-- "No refusal changes a state or an output buffer."
pub record Refusals : Type 0 where
  pub set_typed : (l : Leveller) (t : Setting) → Unchanged l (calls.set_typed l t)
  pub set : (l : Leveller) (name : List ℕ) (v w : Float) → Unchanged l (calls.set l name v w)
  pub read : (l : Leveller) (name : List ℕ) → Unchanged l (calls.read l name)
  pub reset : (l : Leveller) → Unchanged l (calls.reset l)
  pub block : (l : Leveller) (xs out : List Float) → BlockUnchanged l out (calls.block l xs out)

-- "A refused making gives a state whose numbers are all 0, the rate too, which 9 refuses ever after."
pub record Unmade : Type 0 where
  pub make : (rate rising falling : Float) → Unchanged calls.unmade (calls.make rate rising falling)
  pub set_typed : (t : Setting) → calls.set_typed calls.unmade t ≡ refused calls.unmade BadState
  pub set : (name : List ℕ) (v w : Float) → calls.set calls.unmade name v w ≡ refused calls.unmade BadState
  pub read : (name : List ℕ) → calls.read calls.unmade name ≡ refused calls.unmade BadState
  pub reset : calls.reset calls.unmade ≡ refused calls.unmade BadState
  pub block : (xs out : List Float) → calls.block calls.unmade xs out ≡ (refused calls.unmade BadState, out)

-- some making is done; and 9 refuses no leveller that could have been set or made: one whose making was done is accepted after any calls
pub record Accepted : Type 0 where
  pub some : (calls.make (f32 48000 1) nought nought).number ≡ 0
  pub carried_on : (rate rising falling : Float) → T (all_f32 (rate ∷ rising ∷ falling ∷ [])) → (calls.make rate rising falling).number ≡ 0
      → (cs : List Call) → InF32 cs → T (acceptable (carried (calls.make rate rising falling).state cs))

-- settings, rate and worked numbers that could have been "set or made": those of a leveller whose making was done, after some calls, all of f32s
pub record Reached (s : Settings) : Type 0 where
  pub rate : Float
  pub rising : Float
  pub falling : Float
  pub made : (calls.make rate rising falling).number ≡ 0
  pub since : List Call
  pub left : (carried (calls.make rate rising falling).state since).settings ≡ s
  pub by_f32 : T (all_f32 (rate ∷ rising ∷ falling ∷ [])) × InF32 since

-- 9 is given exactly when they couldn't, or "a level not from 0 to 64"
pub record Exactly : Type 0 where
  pub nine : (l : Leveller) → SettingsF32 l.settings → T (acceptable l) ↔ (Reached l.settings × T (in_bounds l.registers))

-- "Decibels and linear factors are kept apart ..; neither is ever accepted for the other." No number is accepted both as a threshold's dB and as its factor
pub record OneWay : Type 0 where
  pub set_typed : (l k : Leveller) (x y z : Float) → (calls.set_typed l (Threshold (record { 0 = x }) (record { 0 = y }))).number ≡ 0
      → (calls.set_typed k (Threshold (record { 0 = z }) (record { 0 = x }))).number ≡ 0 → ⊥
  pub set : (l k : Leveller) (x y z : Float) → (calls.set l (bytes "threshold") x y).number ≡ 0 → (calls.set k (bytes "threshold") z x).number ≡ 0 → ⊥

-- ---- one sample
-- it is heard: by settings and a level that 9 accepts, and 6 doesn't refuse it; all are f32s
pub record Heard (s : Settings) (m : Registers) (x : Float) : Type 0 where
  pub accepted : T (acceptable (calls.leveller_of s m))
  pub sample : is_refused x ≡ false
  pub by_f32 : SettingsF32 s × T (all_f32 (m.level ∷ x ∷ []))

module _ (s : Settings) (m : Registers) (x : Float) where
  abbrev pub s_root : Float
  s_root = root binary32 (step.over s m x)

  abbrev pub q_root : Float
  q_root = root binary32 s_root

  pub record Sample : Type 0 where
    -- the level stays from 0 to 64
    pub level : T (in_bounds (step.next s m x))
    -- over is from 1 to 2^20, a level of 64 by a threshold of 2^-14
    pub over : T (in_range one (f32 1048576 1) (step.over s m x))
    -- s and q are the f32s nearest to the roots of over and of s, by squares of whole numbers
    pub roots : NearestTo binary32 (step.over s m x) s_root × NearestTo binary32 s_root q_root
    -- nothing overflows: level / threshold, the two roots, their product
    pub no_overflow : T (finite (div binary32 (step.level s m x) s.factor.0)) × (T (finite s_root) × (T (finite q_root) × T (finite (mul binary32 s_root q_root))))
    -- the gain is above 0 and at most 1
    pub gain : T (lt nought (step.gain s m x)) × T (le (step.gain s m x) one)
    -- no output is larger in size than its input times makeup, as rounded, and none than 256
    pub output : T (le (absolute (step.output s m x)) (mul binary32 (absolute x) s.makeup.0))
    pub loudest : T (le (absolute (step.output s m x)) (f32 256 1))

pub record EachSample : Type 0 where
  pub holds : (s : Settings) (m : Registers) (x : Float) → Heard s m x → Sample s m x

-- ---- a block that is done: each of its samples is heard, in the state that those before it left, and its output is what that gives. The open count of any block is 0
pub record Blocks : Type 0 where
  pub heard : (l : Leveller) (xs out : List Float) → (calls.block l xs out).0.number ≡ 0 → SettingsF32 l.settings → T (all_f32 (l.registers.level ∷ xs))
      → (k : ℕ) → k < length xs → Heard l.settings (calls.after l.settings l.registers (take k xs)) (get_or xs k nought)
  pub given : (l : Leveller) (xs out : List Float) → (calls.block l xs out).0.number ≡ 0
      → (k : ℕ) → k < length xs → get_or (calls.block l xs out).1 k nought ≡ step.output l.settings (calls.after l.settings l.registers (take k xs)) (get_or xs k nought)
  pub count : (l : Leveller) (xs out : List Float) → (calls.block l xs out).0.count ≡ 0

-- at ratio 1 and makeup 1 the output is the input, bit for bit
pub record Through : Type 0 where
  pub block : (l : Leveller) (xs out : List Float) → (calls.block l xs out).0.number ≡ 0 → T (all_f32 xs) → l.settings.ratio ≡ one → l.settings.makeup.0 ≡ one
      → (calls.block l xs out).1 ≡ xs

-- no two answers tell the same: what a call tells gives its leveller and its answer back
pub record Answers : Type 0 where
  pub answer : (l k : Leveller) (a b : Result ⊤ Refusal) → told l a ≡ told k b → (l ≡ k) × (a ≡ b)
  pub reading : (l k : Leveller) (a b : Result Float Refusal) → told_read l a ≡ told_read k b → (l ≡ k) × (a ≡ b)
