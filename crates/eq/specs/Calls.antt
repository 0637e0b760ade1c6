-- The equaliser's calls: make, set, read, reset, block, with document 01's refusals in its order. Definitions only.
-- Assumes nothing.
use Rattle.std.specs.Prelude.{ℕ, List, ltb, Float, Option, Some, None}
use Rattle.answer.specs.Checks.{is_rate}
use Rattle.answer.specs.Told.{Told, refused, done, done_with, unless}
use Rattle.answer.specs.Blocks.{checked_block}
use Rattle.answer.specs.declared.Decibels.{Decibels}
use Rattle.answer.specs.declared.Refusal.TheVariants.{NoSetting, NoBand, OutOfRange, BadWorkedNumber, BadRate, BadState}
use Rattle.fold.specs.Fold.{state_after, out_after}
use Rattle.eq_bands.specs.Bands.{in_its_range, worked}
use Rattle.eq_bands.specs.Names.{index_of, named}
use Rattle.eq_bands.specs.declared.Numbers.{Numbers}
use Rattle.eq_bands.specs.declared.Settings.{Settings}
use Rattle.eq_bands.specs.declared.Setting.{Setting}
use Rattle.eq_bands.specs.declared.Setting.TheVariants.{Band}
use Rattle.eq_bands.specs.Row as Row
use Rattle.eq_bands.specs.declared.Registers.{Registers}
use Rattle.eq.specs.declared.Equaliser.{Equaliser}
use Rattle.eq.specs.States.{acceptable, made, unmade, at_rest, with_band, value_at}

-- ---- make: 5
unfoldable pub make : Float → Told Equaliser
make rate = unless (is_rate rate) (refused unmade BadRate) (done (made rate))

-- ---- set, typed: 9, 2, 3, 4; and by a name with its numbers: 9, 1, 2, 3, 4
unfoldable pub set_band : Equaliser → ℕ → Decibels → Numbers → Told Equaliser
set_band e i value numbers =
    unless (acceptable e) (refused e BadState)
    (unless (ltb i 16) (refused e NoBand)
    (unless (in_its_range value) (refused e OutOfRange)
    (unless (worked numbers) (refused e BadWorkedNumber)
    (done (with_band e i value numbers)))))

unfoldable pub set_found : Equaliser → Option Setting → Told Equaliser
set_found e (Some (Band i value numbers)) = set_band e i value numbers
set_found e None = refused e NoSetting

unfoldable pub set : Equaliser → List ℕ → Decibels → Numbers → Told Equaliser
set e name value numbers = unless (acceptable e) (refused e BadState) (set_found e (named name value numbers))

-- ---- read: 9, 1, 2
unfoldable pub read_found : Equaliser → Option ℕ → Told Equaliser
read_found e (Some i) = unless (ltb i 16) (refused e NoBand) (done_with e 0 (value_at e i))
read_found e None = refused e NoSetting

unfoldable pub read : Equaliser → List ℕ → Told Equaliser
read e name = unless (acceptable e) (refused e BadState) (read_found e (index_of name))

-- ---- reset: 9
abbrev pub equaliser_of : Settings → Registers → Equaliser
equaliser_of s m = record { settings = s; registers = m }

unfoldable pub reset : Equaliser → Told Equaliser
reset e = unless (acceptable e) (refused e BadState) (done (equaliser_of e.settings at_rest))

-- ---- block: 9, 7, 8, 6
module _ (s : Settings) (m : Registers) (xs : List Float) where
  -- one sample after the other: what they leave, and what they give
  abbrev pub after : Registers
  after = state_after (Row.next s) m xs

  abbrev pub outputs : List Float
  outputs = out_after (Row.next s) (Row.rounded s) m xs

-- the equaliser that they leave
abbrev pub ran_on : Equaliser → List Float → Equaliser
ran_on e xs = equaliser_of e.settings (after e.settings e.registers xs)

-- what is told, and what the buffer for the output holds afterwards
unfoldable pub block : Equaliser → List Float → List Float → Told Equaliser × List Float
block e xs out = checked_block e out (done (ran_on e xs), outputs e.settings e.registers xs) (acceptable e) xs
