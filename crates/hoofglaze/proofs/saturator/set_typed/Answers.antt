-- `hoofglaze::saturator::set_typed` meets its contract. Assumes nothing.
use Rattle.std.proofs.Common.{◌∙◌}
use Rattle.hoofglaze.proofs.Answers.{done-crosses}
use Rattle.hoofglaze.proofs.saturator.set_typed.Goals as goal

pub returns : goal.returns
returns c = done-crosses _ _ c.into-answer.ensures ∙ c.set_typed.ensures
