-- What reading a recording tells: a number, and the three figures. Definitions only.
-- Assumes nothing.
use Rattle.std.specs.Prelude.{ℕ, Result, Ok, Err}
use Rattle.answer.specs.Refusals as Refusals
use Rattle.answer.specs.declared.Refusal.TheVariants as refusal
use Rattle.wave.specs.declared.Fault.{Fault}
use Rattle.wave.specs.declared.Fault.TheVariants.{NotWave, CutShort, Missing, OtherFormat, BadRate, OddData}
use Rattle.wave.specs.declared.Figures.{Figures}
use Rattle.wave.specs.declared.Found.{Found}

-- the rate in Hz, the place of the first sample's first byte in the buffer, and how many bytes the samples are
abbrev pub found : ℕ → ℕ → ℕ → Figures
found rate place size = record { number = 0; rate = rate; place = place; length = size }

-- "three zeros"
abbrev pub refused : ℕ → Figures
refused number = record { number = number; rate = 0; place = 0; length = 0 }

-- document 02's numbers; the rate's is document 01's
abbrev pub number : Fault → ℕ
number NotWave = 10
number CutShort = 11
number Missing = 12
number OtherFormat = 13
number BadRate = Refusals.number refusal.BadRate
number OddData = 14

abbrev pub told : Result Found Fault → Figures
told (Ok f) = found f.rate f.place f.length
told (Err fault) = refused (number fault)
