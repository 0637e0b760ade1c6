-- `hoofglaze::saturator::hoofglaze_saturator_block` meets its contract. Assumes nothing.
use Rattle.hoofglaze.proofs.Answers.{done-crosses}
use Rattle.hoofglaze.proofs.saturator.hoofglaze_saturator_block.Goals as goal

pub returns : goal.returns
returns c = rw (done-crosses _ _ c.into-answer.ensures) c.block.ensures
