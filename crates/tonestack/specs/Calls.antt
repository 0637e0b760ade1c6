-- The tone stack's calls: make, set, read, reset, block, with document 01's refusals in its order. Definitions only.
-- Assumes nothing.
use Rattle.std.specs.Prelude.{ℕ, Bool, List, Float, Option, Some, None}
use Rattle.answer.specs.Figures.{nought, one}
use Rattle.answer.specs.Checks.{is_rate}
use Rattle.answer.specs.Told.{Told, refused, done, done_with, unless}
use Rattle.answer.specs.Blocks.{checked_block}
use Rattle.answer.specs.declared.Refusal.TheVariants.{NoSetting, OutOfRange, BadWorkedNumber, BadRate, BadState}
use Rattle.fold.specs.Fold.{state_after, out_after}
use Rattle.common.specs.declared.frequencies.Model.{Model}
use Rattle.tonestack_sample.specs.Models.{number_of}
use Rattle.tonestack_sample.specs.Ranges.{is_number, worked, with_setting, settable}
use Rattle.tonestack_sample.specs.Names.{named, kept}
use Rattle.tonestack_sample.specs.declared.Settings.{Settings}
use Rattle.tonestack_sample.specs.declared.Setting.{Setting}
use Rattle.tonestack_sample.specs.Step.{next, output}
use Rattle.tonestack_sample.specs.declared.Registers.{Registers}
use Rattle.tonestack.specs.declared.Tone.{Tone}

abbrev pub tone_of : Settings → Registers → Tone
tone_of s m = record { settings = s; registers = m }

abbrev pub at_rest : Registers
at_rest = record { dc = nought; bass = nought; treble = nought; presence = nought }

-- ---- 9: settings, rate and worked number that could have been set or made; registers of any bits
unfoldable pub acceptable : Tone → Bool
acceptable t = settable t.settings

-- ---- make: 5
unfoldable pub made_settings : Model → Float → Settings
made_settings model rate = record {
  rate = rate;
  model = number_of model;
  bass = one;
  mid = one;
  treble = one;
  presence = one;
  factor = record { 0 = one };
}

-- what a refused making gives
abbrev pub unmade : Tone
unmade = record {
  settings = record {
    rate = nought;
    model = 0;
    bass = nought;
    mid = nought;
    treble = nought;
    presence = nought;
    factor = record { 0 = nought };
  };
  registers = at_rest;
}

unfoldable pub make : Model → Float → Told Tone
make model rate = unless (is_rate rate) (refused unmade BadRate) (done (tone_of (made_settings model rate) at_rest))

-- ---- set, typed: 9, 3, 4; and by a name with its numbers: 9, 1, 3, 4
unfoldable pub set_typed : Tone → Setting → Told Tone
set_typed t v =
    unless (acceptable t) (refused t BadState)
    (unless (is_number v) (refused t OutOfRange)
    (unless (worked v) (refused t BadWorkedNumber)
    (done (tone_of (with_setting t.settings v) t.registers))))

unfoldable pub set_found : Tone → Option Setting → Told Tone
set_found t (Some v) = set_typed t v
set_found t None = refused t NoSetting

unfoldable pub set : Tone → List ℕ → Float → Float → Told Tone
set t name v w = unless (acceptable t) (refused t BadState) (set_found t (named name v w))

-- ---- read: 9, 1. The numbers that stand beside a name when it is set play no part
unfoldable pub read_found : Tone → Option Setting → Told Tone
read_found t (Some v) = done_with t 0 (kept t.settings v)
read_found t None = refused t NoSetting

unfoldable pub read : Tone → List ℕ → Told Tone
read t name = unless (acceptable t) (refused t BadState) (read_found t (named name nought nought))

-- ---- reset: 9
unfoldable pub reset : Tone → Told Tone
reset t = unless (acceptable t) (refused t BadState) (done (tone_of t.settings at_rest))

-- ---- block: 9, 7, 8, 6
module _ (s : Settings) (m : Registers) (xs : List Float) where
  -- one sample after the other: what they leave, and what they give
  abbrev pub after : Registers
  after = state_after (next s) m xs

  abbrev pub outputs : List Float
  outputs = out_after (next s) (output s) m xs

-- what is told, and what the buffer for the output holds afterwards; a refusal leaves it as it was
unfoldable pub block : Tone → List Float → List Float → Told Tone × List Float
block t xs out =
    let s = t.settings in
    let m = t.registers in
    checked_block t out (done (tone_of s (after s m xs)), outputs s m xs) (acceptable t) xs
