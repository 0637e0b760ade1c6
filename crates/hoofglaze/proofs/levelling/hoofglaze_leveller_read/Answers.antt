-- `hoofglaze::levelling::hoofglaze_leveller_read` meets its contract. Assumes nothing.
use Rattle.std.proofs.Common.{◌∙◌}
use Rattle.answer.proofs.Answers.{reading-crosses}
use Rattle.hoofglaze.proofs.levelling.hoofglaze_leveller_read.Goals as goal

pub returns : goal.returns
returns c = reading-crosses _ _ c.into.ensures ∙ c.read.ensures
