-- What writing a recording tells: a number, and the file's length. Definitions only.
-- Assumes nothing.
use Rattle.std.specs.Prelude.{ℕ, Bool, Result, Ok, Err}
use Rattle.answer.specs.Refusals as Refusals
use Rattle.answer.specs.declared.Refusal.TheVariants as refusal
use Rattle.answer.specs.Told.{unless}
use Rattle.wave_write.specs.declared.Fault.{Fault}
use Rattle.wave_write.specs.declared.Fault.TheVariants.{BadRate, OddData, TooLong, NoRoom}
use Rattle.wave_write.specs.declared.Figures.{Figures}

abbrev pub done : ℕ → Figures
done size = record { number = 0; length = size }

abbrev pub refused : ℕ → Figures
refused number = record { number = number; length = 0 }

-- document 02's numbers; the rate's is document 01's
abbrev pub number : Fault → ℕ
number BadRate = Refusals.number refusal.BadRate
number OddData = 14
number TooLong = 17
number NoRoom = 15

abbrev pub told : Result ℕ Fault → Figures
told (Ok size) = done size
told (Err fault) = refused (number fault)

-- the first of the four tests that fails: the rate, the samples' evenness, their limit, the room
abbrev pub checked : Bool → Bool → Bool → Bool → Result (Unit {0}) Fault
checked rated even short room =
    unless rated (Err BadRate)
    (unless even (Err OddData)
    (unless short (Err TooLong)
    (unless room (Err NoRoom)
    (Ok tt))))
