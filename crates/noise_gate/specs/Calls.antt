-- The gate's calls: make, load, set, read, reset, block, block with a record, with document 01's refusals in its order. Definitions only.
-- Assumes nothing.
use Rattle.std.specs.Prelude.{ℕ, Bool, ◌&&◌, cond, List, eqb, length, Float, Option, Some, None}
use Rattle.answer.specs.Figures.{f32, nought, one}
use Rattle.answer.specs.Checks.{is_rate, is_smoothing}
use Rattle.answer.specs.Told.{Told, refused, done, done_with, done_hold, done_passed, unless, where_done}
use Rattle.float.specs.Truncating as truncating
use Rattle.answer.specs.Blocks.{checked_block}
use Rattle.answer.specs.declared.Refusal.TheVariants.{NoSetting, OutOfRange, BadWorkedNumber, BadRate, LengthsDiffer, BadState}
use Rattle.fold.specs.Fold.{state_after, out_after, count_after}
use Rattle.noise_gate.specs.Figures.{made_hold}
use Rattle.noise_gate_sample.specs.Step.{held, aim, output, next}
use Rattle.noise_gate_settings.specs.Ranges.{in_its_range, worked, with_setting}
use Rattle.noise_gate.specs.Bounds.{acceptable}
use Rattle.noise_gate_settings.specs.Names.{named, kept}
use Rattle.noise_gate_settings.specs.declared.Settings.{Settings}
use Rattle.noise_gate_sample.specs.declared.Registers.{Registers}
use Rattle.noise_gate.specs.declared.Gate.{Gate}
use Rattle.noise_gate.specs.declared.Before.{Before}
use Rattle.noise_gate_settings.specs.declared.Setting.{Setting}
use Rattle.noise_gate_settings.specs.declared.Setting.TheVariants.{Threshold, Ratio, Attack, Release, Hold}

abbrev pub gate_of : Settings → Registers → Gate
gate_of s m = record { settings = s; registers = m }

abbrev pub at_rest : Registers
at_rest = record { level = nought; state = nought; counter = 0; quiet = 0 }

-- ---- make: 5, 4
unfoldable pub made_settings : Float → Float → Float → Settings
made_settings rate rising falling = record {
  rate = rate;
  threshold = record { 0 = nought };
  factor = record { 0 = one };
  ratio = f32 10 1;
  attack = record { ms = one; number = nought };
  release = record { ms = f32 100 1; number = nought };
  hold = f32 made_hold 1;
  rising = rising;
  falling = falling;
}

-- what a refused making gives
abbrev pub unmade : Gate
unmade = record {
  settings = record {
    rate = nought;
    threshold = record { 0 = nought };
    factor = record { 0 = nought };
    ratio = nought;
    attack = record { ms = nought; number = nought };
    release = record { ms = nought; number = nought };
    hold = nought;
    rising = nought;
    falling = nought;
  };
  registers = at_rest;
}

unfoldable pub make : Float → Float → Float → Told Gate
make rate rising falling =
    unless (is_rate rate) (refused unmade BadRate)
    (unless (is_smoothing rising && is_smoothing falling) (refused unmade BadWorkedNumber)
    (done (gate_of (made_settings rate rising falling) at_rest)))

-- ---- load: a state from before document 02's W10 "has no such count and loads with 0"; every other number is as it was, and nothing is refused
unfoldable pub load : Before → Gate
load b = let m = b.registers in gate_of b.settings (record { level = m.level; state = m.state; counter = m.counter; quiet = 0 })

-- ---- what a done setting tells of the settings s that it leaves: "exact" or "cut" of the hold, and H beside it; of any other neither
abbrev pub hold_told : Settings → Setting → ℕ × ℕ
hold_told s (Threshold d k) = (0, 0)
hold_told s (Ratio r) = (0, 0)
hold_told s (Attack t c) = (0, 0)
hold_told s (Release t c) = (0, 0)
hold_told s (Hold t) = ((held s).whole, truncating.number (held s).word)

-- ---- set, typed: 9, 3, 4; and by a name with its numbers: 9, 1, 3, 4
unfoldable pub set_typed : Gate → Setting → Told Gate
set_typed g t =
    unless (acceptable g) (refused g BadState)
    (unless (in_its_range t) (refused g OutOfRange)
    (unless (worked t) (refused g BadWorkedNumber)
    (let s = with_setting g.settings t in done_hold (gate_of s g.registers) (hold_told s t).0 (hold_told s t).1)))

unfoldable pub set_found : Gate → Option Setting → Told Gate
set_found g (Some t) = set_typed g t
set_found g None = refused g NoSetting

unfoldable pub set : Gate → List ℕ → Float → Float → Told Gate
set g name v w = unless (acceptable g) (refused g BadState) (set_found g (named name v w))

-- ---- read: 9, 1. The numbers that stand beside a name when it is set play no part
unfoldable pub read_found : Gate → Option Setting → Told Gate
read_found g (Some t) = done_with g 0 (kept g.settings t)
read_found g None = refused g NoSetting

unfoldable pub read : Gate → List ℕ → Told Gate
read g name = unless (acceptable g) (refused g BadState) (read_found g (named name nought nought))

-- ---- reset: 9
unfoldable pub reset : Gate → Told Gate
reset g = unless (acceptable g) (refused g BadState) (done (gate_of g.settings at_rest))

-- ---- a sample's aim as a byte of a record: 1 open, 0 closed
abbrev pub byte_of : Bool → ℕ
byte_of b = cond b 1 0

abbrev pub byte_at : Settings → Registers → Float → ℕ
byte_at s m x = byte_of (aim s m x)

-- ---- block: 9, 7, 8, 6
module _ (s : Settings) (m : Registers) (xs : List Float) where
  -- one sample after the other: what they leave, what they give, how the gate aims at each, and how many of them are aimed open
  abbrev pub after : Registers
  after = state_after (next s) m xs

  abbrev pub outputs : List Float
  outputs = out_after (next s) (output s) m xs

  abbrev pub aimed : List ℕ
  aimed = out_after (next s) (byte_at s) m xs

  abbrev pub open_count : ℕ
  open_count = count_after (next s) (aim s) m xs

  -- what is told of them, the quiet count "after the last sample" with it, and what the buffer for the output holds afterwards
  abbrev pub ran : Told Gate × List Float
  ran = (done_passed (gate_of s after) open_count after.quiet, outputs)

-- a refusal leaves the buffer as it was
unfoldable pub block : Gate → List Float → List Float → Told Gate × List Float
block g xs out = checked_block g out (ran g.settings g.registers xs) (acceptable g) xs

-- ---- block with a record of the aims: 9, 7 for a record that isn't as long as the samples, then `block`'s 9, 7, 8, 6. A refusal leaves the record as it was
unfoldable pub block_recorded : Gate → List Float → List Float → List ℕ → Told Gate × List Float × List ℕ
block_recorded g xs out aims =
    unless (acceptable g) (refused g BadState, out, aims)
    (unless (eqb (length xs) (length aims)) (refused g LengthsDiffer, out, aims)
    (let t = block g xs out in (t.0, t.1, where_done t.0 (aimed g.settings g.registers xs) aims)))
