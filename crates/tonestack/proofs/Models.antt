-- A model's number is its place in the enum.
-- Assumes nothing.
use mathlib.Core.Path.{◌≡◌, refl}
use denote.Enum.Declared.{tag_of}
use Rattle.common.specs.contracts.frequencies.Model.{the_type}
use Rattle.common.specs.declared.frequencies.Model.{Model}
use Rattle.common.specs.declared.frequencies.Model.TheVariants.{Modern, British, American, Flat}
use Rattle.tonestack_sample.specs.Models.{number_of}

pub placed : (m : Model) → tag_of the_type m ≡ number_of m
unfolding number_of
placed Modern = refl
placed British = refl
placed American = refl
placed Flat = refl
