-- `eq_bands::Settings::settable` meets its contract. Assumes nothing.
use Rattle.std.proofs.Common.{rules, ◌≡◌, refl, sym, ◌∙◌, List, [], ◌∷◌}
use Rattle.std.specs.List.{list_all}
use Rattle.std.proofs.lemmas.Iterator.{YieldsList-from_slice}
use Rattle.std.proofs.lemmas.Iterator.Search.{all_from_yields_List}
use borrow.Author.Tests.{tests}
use Rattle.eq_bands.specs.Bands.{settable, band_settable, all_settable}
use Rattle.eq_bands.specs.declared.Band.{Band}
use Rattle.eq_bands.proofs.Settings.settable.Goals as goal

each : (bs : List Band) → list_all band_settable bs ≡ all_settable bs
unfolding all_settable
each [] = refl
each (b ∷ bs) = rw (each bs)

pub returns-then-is_rate : goal.returns-then-is_rate
unfolding settable
returns-then-is_rate c =
    rw (sym c.is_rate.ensures ∙ c.if-is_rate.true) (all_from_yields_List band_settable _ _ c.all.result c.all.ensures.ran (YieldsList-from_slice c.args.self.now.bands cc) (λ x b q k. search (rules, tests)) ∙ each c.args.self.now.bands)
