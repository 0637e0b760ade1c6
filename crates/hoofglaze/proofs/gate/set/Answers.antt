-- `hoofglaze::gate::set` meets its contract. Assumes nothing.
use Rattle.hoofglaze.proofs.Answers.{set-crosses}
use Rattle.hoofglaze.proofs.gate.set.Goals as goal

pub returns : goal.returns
returns c = set-crosses _ _ c.into.ensures
