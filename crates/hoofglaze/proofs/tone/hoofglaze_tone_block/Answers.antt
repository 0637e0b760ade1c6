-- `hoofglaze::tone::hoofglaze_tone_block` meets its contract. Assumes nothing.
use Rattle.hoofglaze.proofs.Answers.{done-crosses}
use Rattle.hoofglaze.proofs.tone.hoofglaze_tone_block.Goals as goal

pub returns : goal.returns
returns c = rw (done-crosses _ _ c.into-answer.ensures) c.block.ensures
