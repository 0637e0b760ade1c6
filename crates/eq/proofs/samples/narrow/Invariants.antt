-- `eq::samples::narrow` meets its contract. Assumes nothing.
use Rattle.std.proofs.Common.{◌≡◌, take, map}
use Rattle.rounding.specs.Casts as Casts
use Rattle.eq.proofs.samples.narrow.Given as goal

abbrev pub invariant-loop-i : goal.invariant-loop-i
invariant-loop-i l = take l.i l.output ≡ map Casts.narrow (take l.i l.buffer)
