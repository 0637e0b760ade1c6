-- `hoofglaze::saturator::hoofglaze_saturator_set` meets its contract. Assumes nothing.
use Rattle.std.proofs.Common.{◌∙◌}
use Rattle.hoofglaze.proofs.Answers.{done-crosses}
use Rattle.hoofglaze.proofs.saturator.hoofglaze_saturator_set.Goals as goal

pub returns : goal.returns
returns c = done-crosses _ _ c.into-answer.ensures ∙ c.set.ensures
