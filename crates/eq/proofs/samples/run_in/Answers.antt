-- `eq::samples::run_in` meets its contract. Assumes nothing.
use Rattle.eq.proofs.Ran.{ran}
use Rattle.eq.proofs.samples.run_in.Goals as goal

pub returns : goal.returns
returns c = ran _ _ _ c.widen.ensures c.through.ensures c.narrow.ensures
