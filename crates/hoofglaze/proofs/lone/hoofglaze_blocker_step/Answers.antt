-- `hoofglaze::lone::hoofglaze_blocker_step` meets its contract. Assumes nothing.
use Rattle.std.proofs.Common.{◌∙◌}
use Rattle.answer.proofs.Answers.{reading-crosses}
use Rattle.hoofglaze.proofs.lone.hoofglaze_blocker_step.Goals as goal

pub returns : goal.returns
returns c = reading-crosses _ _ c.into.ensures ∙ c.step-output.ensures
