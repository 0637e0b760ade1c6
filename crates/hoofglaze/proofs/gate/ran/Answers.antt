-- `hoofglaze::gate::ran` meets its contract. Assumes nothing.
use Rattle.hoofglaze.proofs.Answers.{passed-crosses}
use Rattle.hoofglaze.proofs.gate.ran.Goals as goal

pub returns : goal.returns
returns c = passed-crosses _ _ c.into.ensures
