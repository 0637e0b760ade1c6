-- `hoofglaze::gate::answered` meets its contract. Assumes nothing.
use Rattle.answer.proofs.Answers.{answer-crosses}
use Rattle.hoofglaze.proofs.gate.answered.Goals as goal

pub returns : goal.returns
returns c = answer-crosses _ _ c.into.ensures
