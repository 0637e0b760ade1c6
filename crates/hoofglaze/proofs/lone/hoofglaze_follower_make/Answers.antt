-- `hoofglaze::lone::hoofglaze_follower_make` meets its contract. Assumes nothing.
use Rattle.std.proofs.Common.{◌∙◌}
use Rattle.std.specs.Prelude.{Ok, Err}
use Rattle.answer.proofs.Answers.{answer-crosses}
use Rattle.hoofglaze.proofs.lone.hoofglaze_follower_make.Goals as goal

pub returns-in-Ok : goal.returns-in-Ok
returns-in-Ok c = answer-crosses _ (Ok tt) c.into.ensures ∙ rw c.in-Ok.is at c.make.ensures

pub returns-in-Err : goal.returns-in-Err
returns-in-Err c = answer-crosses _ (Err c.in-Err.r) c.into-in-Err.ensures ∙ rw c.unmade.ensures (rw c.in-Err.is at c.make.ensures)
