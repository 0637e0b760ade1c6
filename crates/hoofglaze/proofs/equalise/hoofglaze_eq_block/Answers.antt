-- `hoofglaze::equalise::hoofglaze_eq_block` meets its contract. Assumes nothing.
use Rattle.hoofglaze.proofs.Answers.{done-crosses}
use Rattle.hoofglaze.proofs.equalise.hoofglaze_eq_block.Goals as goal

pub returns : goal.returns
returns c = rw (done-crosses _ _ c.into-answer.ensures) c.block.ensures
