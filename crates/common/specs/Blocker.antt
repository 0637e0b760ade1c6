-- The DC blocker: a sample's step, and a blocker alone, in document 01's order. Definitions only.
-- Assumes nothing.
use Rattle.std.specs.Prelude.{Float}
use Rattle.std.specs.Float.{binary32}
use Rattle.std.specs.Float.Ieee.{sub}
use Rattle.rounding.specs.Fma.{fma}
use Rattle.answer.specs.Figures.{nought, one}
use Rattle.answer.specs.Checks.{is_smoothing}
use Rattle.answer.specs.Told.{Told, refused, done, done_with, unless}
use Rattle.answer.specs.declared.Refusal.TheVariants.{BadWorkedNumber, BadState}
use Rattle.common.specs.declared.blocker.Blocker.{Blocker}

-- y = fma(c, y1, x - x1), then x1 = x, y1 = y
unfoldable pub blocked : Blocker → Float → Blocker
blocked b x =
    let y = fma binary32 b.c b.y1 (sub binary32 x b.x1) in
    record { c = b.c; x1 = x; y1 = y }

-- ---- alone
abbrev pub at_rest : Float → Blocker
at_rest c = record { c = c; x1 = nought; y1 = nought }

-- what a refused making gives
abbrev pub unmade : Blocker
unmade = at_rest one

unfoldable pub make : Float → Told Blocker
make c = unless (is_smoothing c) (refused unmade BadWorkedNumber) (done (at_rest c))

unfoldable pub step : Blocker → Float → Told Blocker
step b x =
    let next = blocked b x in
    unless (is_smoothing b.c) (refused b BadState) (done_with next 0 next.y1)

unfoldable pub reset : Blocker → Told Blocker
reset b = unless (is_smoothing b.c) (refused b BadState) (done (at_rest b.c))
