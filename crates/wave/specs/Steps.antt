-- What the code's walk leads to, in the definition's numbers. Definitions only.
-- Assumes nothing.
use Rattle.std.specs.Prelude.{ℕ, Option, Some, None, Result, Ok, Err}
use Rattle.wave.specs.Answers.{number}
use Rattle.wave.specs.Reading.{Met, Data, Stops, Step, Ends, On}
use Rattle.wave.specs.declared.Fault.{Fault}
use Rattle.wave.specs.declared.Place.{Place}

abbrev pub met_by : Result Place Fault → Met
met_by (Ok here) = Data here.at here.rate
met_by (Err fault) = Stops (number fault)

-- a chunk at a place is `data`, or leads to the next one
abbrev pub stepped : Place → Result (Option Place) Fault → Step
stepped here (Ok None) = Ends (Data here.at here.rate)
stepped here (Ok (Some next)) = On next.at next.rate
stepped here (Err fault) = Ends (Stops (number fault))

-- the first `fmt ` leads to the next chunk with its rate
abbrev pub rated : ℕ → Result ℕ Fault → Step
rated next (Ok rate) = On next (Some rate)
rated next (Err fault) = Ends (Stops (number fault))
