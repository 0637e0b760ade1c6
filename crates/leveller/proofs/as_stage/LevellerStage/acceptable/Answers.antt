-- What 9 accepts is the definition's. Assumes nothing.
use Rattle.std.proofs.Common.{rules}
use lib.Ieee.{of_bits}
use Rattle.answer.specs.Figures.{f32}
use Rattle.leveller.specs.Bounds.{in_bounds, acceptable}
use Rattle.leveller.proofs.as_stage.LevellerStage.acceptable.Goals as goal

pub returns-then-settable : goal.returns-then-settable
unfolding acceptable in_bounds f32 of_bits
returns-then-settable c = search rules
