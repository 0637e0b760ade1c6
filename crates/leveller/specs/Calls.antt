-- The leveller's calls: make, set, read, reset, block, with document 02's refusals in the gate's order. Definitions only.
-- Assumes nothing.
use Rattle.std.specs.Prelude.{ℕ, ◌&&◌, List, Float, Option, Some, None}
use Rattle.answer.specs.Figures.{f32, nought, one}
use Rattle.answer.specs.Checks.{is_rate, is_smoothing}
use Rattle.answer.specs.Told.{Told, refused, done, done_with, unless}
use Rattle.answer.specs.Blocks.{checked_block}
use Rattle.answer.specs.declared.Refusal.TheVariants.{NoSetting, OutOfRange, BadWorkedNumber, BadRate, BadState}
use Rattle.fold.specs.Fold.{state_after, out_after}
use Rattle.leveller_sample.specs.Step.{output, next}
use Rattle.leveller_settings.specs.Ranges.{in_its_range, worked, with_setting}
use Rattle.leveller.specs.Bounds.{acceptable}
use Rattle.leveller_settings.specs.Names.{named, kept}
use Rattle.leveller_settings.specs.declared.Settings.{Settings}
use Rattle.leveller_sample.specs.declared.Registers.{Registers}
use Rattle.leveller.specs.declared.Leveller.{Leveller}
use Rattle.leveller_settings.specs.declared.Setting.{Setting}

abbrev pub leveller_of : Settings → Registers → Leveller
leveller_of s m = record { settings = s; registers = m }

abbrev pub at_rest : Registers
at_rest = record { level = nought }

-- ---- make: 5, 4. Ratio 1, 0 dB with factor 1, makeup 1, attack 1 ms, release 100 ms, and the two smoothing numbers lent
unfoldable pub made_settings : Float → Float → Float → Settings
made_settings rate rising falling = record {
  rate = rate;
  threshold = record { 0 = nought };
  factor = record { 0 = one };
  ratio = one;
  attack = record { ms = one; number = rising };
  release = record { ms = f32 100 1; number = falling };
  makeup = record { 0 = one };
}

-- what a refused making gives
abbrev pub unmade : Leveller
unmade = record {
  settings = record {
    rate = nought;
    threshold = record { 0 = nought };
    factor = record { 0 = nought };
    ratio = nought;
    attack = record { ms = nought; number = nought };
    release = record { ms = nought; number = nought };
    makeup = record { 0 = nought };
  };
  registers = at_rest;
}

unfoldable pub make : Float → Float → Float → Told Leveller
make rate rising falling =
    unless (is_rate rate) (refused unmade BadRate)
    (unless (is_smoothing rising && is_smoothing falling) (refused unmade BadWorkedNumber)
    (done (leveller_of (made_settings rate rising falling) at_rest)))

-- ---- set, typed: 9, 3, 4; and by a name with its numbers: 9, 1, 3, 4
unfoldable pub set_typed : Leveller → Setting → Told Leveller
set_typed l t =
    unless (acceptable l) (refused l BadState)
    (unless (in_its_range t) (refused l OutOfRange)
    (unless (worked t) (refused l BadWorkedNumber)
    (done (leveller_of (with_setting l.settings t) l.registers))))

unfoldable pub set_found : Leveller → Option Setting → Told Leveller
set_found l (Some t) = set_typed l t
set_found l None = refused l NoSetting

unfoldable pub set : Leveller → List ℕ → Float → Float → Told Leveller
set l name v w = unless (acceptable l) (refused l BadState) (set_found l (named name v w))

-- ---- read: 9, 1. The numbers that stand beside a name when it is set play no part
unfoldable pub read_found : Leveller → Option Setting → Told Leveller
read_found l (Some t) = done_with l 0 (kept l.settings t)
read_found l None = refused l NoSetting

unfoldable pub read : Leveller → List ℕ → Told Leveller
read l name = unless (acceptable l) (refused l BadState) (read_found l (named name nought nought))

-- ---- reset: 9
unfoldable pub reset : Leveller → Told Leveller
reset l = unless (acceptable l) (refused l BadState) (done (leveller_of l.settings at_rest))

-- ---- block: 9, 7, 8, 6
module _ (s : Settings) (m : Registers) (xs : List Float) where
  -- one sample after the other: what they leave, and what they give
  abbrev pub after : Registers
  after = state_after (next s) m xs

  abbrev pub outputs : List Float
  outputs = out_after (next s) (output s) m xs

-- what is told, and what the buffer for the output holds afterwards; a refusal leaves it as it was
unfoldable pub block : Leveller → List Float → List Float → Told Leveller × List Float
block l xs out =
    let s = l.settings in
    let m = l.registers in
    checked_block l out (done (leveller_of s (after s m xs)), outputs s m xs) (acceptable l) xs
