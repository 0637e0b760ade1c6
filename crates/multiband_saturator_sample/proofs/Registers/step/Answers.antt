-- `multiband_saturator_sample::Registers::step` meets its contract. Assumes nothing.
use Rattle.std.proofs.Common.{rules}
use Rattle.multiband_saturator_sample.specs.Step.{lowmid, midhigh, allpass, low_band, mid_band, high_band, output, next}
use Rattle.multiband_saturator_sample.proofs.Registers.step.Goals as goal

pub returns-clause-left : goal.returns-clause-left
unfolding next lowmid midhigh allpass low_band mid_band high_band
returns-clause-left c = search rules

pub returns-clause-given : goal.returns-clause-given
unfolding output lowmid midhigh allpass low_band mid_band high_band
returns-clause-given c = search rules
