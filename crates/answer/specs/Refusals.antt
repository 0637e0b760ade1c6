-- Document 01's table of answers: the number of each refusal, and the place that it names. Definitions only.
-- Assumes nothing.
use Rattle.std.specs.Prelude.{ℕ}
use Rattle.answer.specs.declared.Refusal.{Refusal}
use Rattle.answer.specs.declared.Refusal.TheVariants.{NoSetting, NoBand, OutOfRange, BadWorkedNumber, BadRate, BadSample, LengthsDiffer, TooLong, BadState}

abbrev pub number : Refusal → ℕ
number NoSetting = 1
number NoBand = 2
number OutOfRange = 3
number BadWorkedNumber = 4
number BadRate = 5
number (BadSample i) = 6
number LengthsDiffer = 7
number TooLong = 8
number BadState = 9

-- that of the first sample that is refused, and 0 wherever none is named
abbrev pub place : Refusal → ℕ
place NoSetting = 0
place NoBand = 0
place OutOfRange = 0
place BadWorkedNumber = 0
place BadRate = 0
place (BadSample i) = i
place LengthsDiffer = 0
place TooLong = 0
place BadState = 0
