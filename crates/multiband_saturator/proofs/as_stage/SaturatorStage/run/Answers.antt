-- A block's samples leave and give what the definition says. Assumes nothing.
use Rattle.multiband_saturator.proofs.as_stage.SaturatorStage.run.Goals as goal

pub returns : goal.returns
returns c = cc
