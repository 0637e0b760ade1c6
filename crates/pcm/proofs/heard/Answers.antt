-- `pcm::heard` meets its contract. Assumes nothing.
use Rattle.std.proofs.Common.{rules}
use mir.Facts.{to_z-of_z}
use lib.Ieee.{of_bits}
use Rattle.answer.specs.Figures.{f32}
use Rattle.pcm.specs.Samples.{heard}
use Rattle.pcm.proofs.Signed.{signed-word, sample-fits}
use Rattle.pcm.proofs.heard.Goals as goal

pub returns : goal.returns
unfolding heard of_bits f32
returns c = rw (c.cast_signed.ensures, signed-word c.args.word, to_z-of_z (sample-fits c.args.word (search rules)))
