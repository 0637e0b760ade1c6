-- `clipper::process_all` meets its contract. Assumes nothing.
use Rattle.std.proofs.Common.{◌≡◌, take}
use Rattle.clipper.specs.Block.{processed}
use Rattle.clipper.proofs.process_all.Given as goal

abbrev pub invariant-loop-i : goal.invariant-loop-i
invariant-loop-i l = take l.i l.output ≡ processed l.kind l.drive (take l.i l.input)
