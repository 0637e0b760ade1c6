-- `hoofglaze::saturator::hoofglaze_saturator_read` meets its contract. Assumes nothing.
use Rattle.std.proofs.Common.{◌∙◌}
use Rattle.answer.proofs.Answers.{reading-crosses}
use Rattle.hoofglaze.proofs.saturator.hoofglaze_saturator_read.Goals as goal

pub returns : goal.returns
returns c = reading-crosses _ _ c.into.ensures ∙ c.read.ensures
