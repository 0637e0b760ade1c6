-- `answer::is_rate` meets its contract. Assumes nothing.
use mathlib.Core.Path.{sym, ◌∙◌}
use lib.Ieee.{of_bits}
use Rattle.answer.specs.Figures.{f32}
use Rattle.answer.proofs.Rates.{exact-rate, cut-rate, out_of_range}
use Rattle.answer.proofs.is_rate.Goals as goal

pub returns-in-Exact : goal.returns-in-Exact
unfolding of_bits f32
returns-in-Exact c =
    exact-rate c.args.rate (sym c.in_range.ensures ∙ c.if-in_range.true) (sym c.in-Exact.is ∙ c.truncated.ensures.1)

pub returns-in_default : goal.returns-in_default
unfolding of_bits f32
returns-in_default c =
    cut-rate c.args.rate (sym c.in_range.ensures ∙ c.if-in_range.true) (sym c.in_default.is ∙ c.truncated.ensures.1)

pub returns-else-in_range : goal.returns-else-in_range
unfolding of_bits f32
returns-else-in_range c = c.if-in_range.false ∙ out_of_range c.args.rate (sym c.in_range.ensures ∙ c.if-in_range.false)
