-- `wave_write::put_file` meets its contract. Assumes nothing.
use mathlib.Core.Path.{refl}
use lib.ListN.{length}
use Rattle.wave_write.specs.Writing.{head}
use Rattle.wave_write.proofs.Over.{behind}
use Rattle.wave_write.proofs.put_file.Goals as goal

pub returns : goal.returns
returns c = let a = c.args in behind (head a.rate (length a.samples.now)) a.samples.now a.output.now _ _ refl (rw c.head.ensures at c.put.ensures) c.put-2.ensures
