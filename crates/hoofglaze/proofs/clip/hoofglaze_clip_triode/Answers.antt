-- `hoofglaze::clip::hoofglaze_clip_triode` meets its contract. Assumes nothing.
use Rattle.std.proofs.Common.{◌∙◌}
use Rattle.answer.proofs.Answers.{answer-crosses}
use Rattle.hoofglaze.proofs.clip.hoofglaze_clip_triode.Goals as goal

pub returns : goal.returns
returns c = answer-crosses _ _ c.into.ensures ∙ c.block.ensures
