-- A sample's step with the alphas worked out before is the step that works them out at each sample.
-- Assumes nothing.
use mathlib.Core.Path.{◌≡◌, refl}
use lib.Ieee.{Float}
use Rattle.tonestack_sample.specs.declared.Settings.{Settings}
use Rattle.tonestack_sample.specs.Alpha.{alphas_of}
use Rattle.tonestack_sample.specs.Step.{next_with, output_with, next, output}
use Rattle.tonestack_sample.specs.declared.Registers.{Registers}

-- both halves of what `Tuned`'s step gives, once its alphas are the settings' own
module _ (s : Settings) (m : Registers) (x : Float) where
  pub once-next : next_with (alphas_of s) s m x ≡ next s m x
  unfolding next
  once-next = refl

  pub once-output : output_with (alphas_of s) s m x ≡ output s m x
  unfolding output
  once-output = refl

  pub once : ◌≡◌ {A = Registers × Float} (next_with (alphas_of s) s m x, output_with (alphas_of s) s m x) (next s m x, output s m x)
  once = rw (once-next, once-output)
