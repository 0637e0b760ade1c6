-- What a setting leaves is the definition's. Assumes nothing.
use Rattle.std.proofs.Common.{◌<◌, length, rules, sym, ◌∙◌}
use lib.Ieee.{of_bits}
use Rattle.eq.proofs.OneBand.{cleared, kept}
use Rattle.eq.proofs.Equaliser.put.Goals as goal

pub returns-then-clears : goal.returns-then-clears
unfolding of_bits
returns-then-clears c =
    let h : c.args.band < length c.args.self.now.settings.bands = search rules in
    rw (c.taken.ensures, cleared c.args.self.now c.args.band c.args.value c.args.numbers _ h (sym c.clears-clears.ensures ∙ c.if-clears.true))

pub returns-else-clears : goal.returns-else-clears
returns-else-clears c =
    let h : c.args.band < length c.args.self.now.settings.bands = search rules in
    rw (c.taken.ensures, kept c.args.self.now c.args.band c.args.value c.args.numbers _ h (sym c.clears-clears.ensures ∙ c.if-clears.false))
