-- An answer as it crosses to a host, in document 01's numbers. Definitions only.
-- Assumes nothing.
use Rattle.std.specs.Prelude.{ℕ, Float}
use Rattle.float.specs.Truncating as truncating
use Rattle.float.specs.declared.Truncation.{Truncation}
use Rattle.answer.specs.Figures.{nought}
use Rattle.answer.specs.Refusals as Refusals
use Rattle.answer.specs.Told.{Told}
use Rattle.answer.specs.declared.Refusal.{Refusal}
use Rattle.answer.specs.declared.Numbered.{Numbered}

-- what it tells, s being the state after the call
abbrev pub told_in : {S : Type 0} → S → Numbered → Told S
told_in s n = record { state = s; number = n.number; place = n.place; count = n.count; value = n.value; samples = n.samples; word = n.word; quiet = n.quiet }

unfoldable pub of_refusal : Refusal → Numbered
of_refusal r = record { number = Refusals.number r; value = nought; place = Refusals.place r; count = 0; samples = 0; word = 0; quiet = 0 }

unfoldable pub of_done : ℕ → Float → Numbered
of_done count value = record { number = 0; value = value; place = 0; count = count; samples = 0; word = 0; quiet = 0 }

unfoldable pub of_hold : Truncation → Numbered
of_hold t = record { number = 0; value = nought; place = 0; count = 0; samples = t.whole; word = truncating.number t.word; quiet = 0 }

unfoldable pub of_passed : ℕ → ℕ → Numbered
of_passed count quiet = record { number = 0; value = nought; place = 0; count = count; samples = 0; word = 0; quiet = quiet }
