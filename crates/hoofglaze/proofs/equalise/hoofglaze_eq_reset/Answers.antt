-- `hoofglaze::equalise::hoofglaze_eq_reset` meets its contract. Assumes nothing.
use Rattle.std.proofs.Common.{◌∙◌}
use Rattle.answer.proofs.Answers.{answer-crosses}
use Rattle.hoofglaze.proofs.equalise.hoofglaze_eq_reset.Goals as goal

pub returns : goal.returns
returns c = answer-crosses _ _ c.into-answer.ensures ∙ c.reset.ensures
