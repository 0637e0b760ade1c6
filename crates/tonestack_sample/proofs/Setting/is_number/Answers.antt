-- `tonestack_sample::Setting::is_number` meets its contract. Assumes nothing.
use Rattle.tonestack_sample.specs.Ranges.{is_number}
use Rattle.tonestack_sample.proofs.Numbers.{itself}
use Rattle.tonestack_sample.proofs.Setting.is_number.Goals as goal

pub returns : goal.returns
unfolding is_number
returns c = rw (c.is_nan.ensures.value, c.value.ensures, itself)
