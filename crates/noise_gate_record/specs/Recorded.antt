-- What a record says: byte k of a done block is 1 exactly if the gate aims open at its sample k in demand 3's words, "this one or fewer than H back"; all else is `block`'s, and a refusal leaves all as it was.
-- Statements only; `proofs/Recorded.antt` proves them. Assumes nothing.
use Rattle.std.specs.Prelude.{◌≡◌, ◌↔◌, cond, List, [], ◌∷◌, ◌++◌, ℕ, suc, ◌+◌, ◌<◌, T, length, get_or, Float}
use Rattle.answer.specs.Blocks.{BlockUnchanged}
use Rattle.noise_gate.specs.Bounds.{acceptable}
use Rattle.noise_gate.specs.Calls.{byte_of, make, block, block_recorded}
use Rattle.noise_gate.specs.declared.Gate.{Gate}
use Rattle.silence.specs.History.{Call, Block, carried, Sample, all_f32, InF32}
use Rattle.silence.specs.Demand3.{samples_after, history, Held}

-- ---- beside the record: what `block` tells and writes; 9 or 7 where the record isn't as long as the samples
pub record AsBlock : Type 0 where
  pub same : (g : Gate) (xs out : List Float) (aims : List ℕ) → length xs ≡ length aims → let t = block_recorded g xs out aims in (t.0, t.1) ≡ block g xs out
  pub other : (g : Gate) (xs out : List Float) (aims : List ℕ) → (length xs ≡ length aims → ⊥) → (block_recorded g xs out aims).0.number ≡ cond (acceptable g) 7 9

-- ---- a refusal leaves the gate and both buffers, and the record never grows or shrinks
pub record Leaves : Type 0 where
  pub unchanged : (g : Gate) (xs out : List Float) (aims : List ℕ) → let t = block_recorded g xs out aims in BlockUnchanged {B = List Float × List ℕ} g (out, aims) (t.0, (t.1, t.2))
  pub as_long : (g : Gate) (xs out : List Float) (aims : List ℕ) → length (block_recorded g xs out aims).2 ≡ length aims

-- ---- sample k of a block of n, which are the latest of the samples h: its byte is its aim, so it is open, or closed, as the byte says
pub record At (h : List Sample) (n k byte : ℕ) : Type 0 where
  pub later : List Sample
  pub it : Sample
  pub earlier : List Sample
  pub is : h ≡ later ++ (it ∷ earlier)
  pub place : length later + suc k ≡ n
  pub aim : byte ≡ byte_of it.aim
  pub opens : (byte ≡ 1) ↔ Held it earlier
  pub closes : (byte ≡ 0) ↔ (Held it earlier → ⊥)

abbrev pub sum : List ℕ → ℕ
sum [] = 0
sum (n ∷ ns) = n + sum ns

-- ---- of a gate g after the calls cs, and a block that is done
pub record Says (g : Gate) (cs : List Call) : Type 0 where
  pub each : (xs out : List Float) (aims : List ℕ) → T (all_f32 xs) → let t = block_recorded (carried g cs) xs out aims in t.0.number ≡ 0
      → (k : ℕ) → k < length xs → At (samples_after (carried g cs) (Block xs out) (history g cs [])) (length xs) k (get_or t.2 k 2)
  pub count : (xs out : List Float) (aims : List ℕ) → let t = block_recorded (carried g cs) xs out aims in t.0.number ≡ 0 → sum t.2 ≡ t.0.count

-- ---- a gate whose making was done, and any calls
abbrev pub Recorded : Type 0
Recorded =
    (rate rising falling : Float) → T (all_f32 (rate ∷ rising ∷ falling ∷ [])) → (make rate rising falling).number ≡ 0
    → (cs : List Call) → InF32 cs → Says (make rate rising falling).state cs
