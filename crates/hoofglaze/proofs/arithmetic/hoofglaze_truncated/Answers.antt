-- `hoofglaze::arithmetic::hoofglaze_truncated` meets its contract. Assumes nothing.
use mathlib.Core.Path.{ap, ◌∙◌}
use Rattle.float.specs.Truncating.{number}
use Rattle.hoofglaze.proofs.arithmetic.hoofglaze_truncated.Goals as goal

pub returns : goal.returns
returns c = let t = c.truncated-t.ensures in (t.0, c.into.ensures ∙ ap number t.1)
