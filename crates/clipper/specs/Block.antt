-- A block through the clipper: 7, 8, 3, 6, then each sample by itself. Its output buffer is what a call changes. Definitions only.
-- Assumes nothing.
use Rattle.std.specs.Prelude.{List, map, eqb, leb, length, Float}
use Rattle.std.specs.Float.Ieee.Scale.{finite}
use Rattle.answer.specs.Figures.{longest_block}
use Rattle.answer.specs.Checks.{first_refused}
use Rattle.answer.specs.Told.{Told, refused, done, unless}
use Rattle.answer.specs.declared.Refusal.TheVariants.{OutOfRange, BadSample, LengthsDiffer, TooLong}
use Rattle.clipper.specs.Process.{process}
use Rattle.clipper.specs.declared.Kind.{Kind}

unfoldable pub processed : Kind → Float → List Float → List Float
processed kind drive input = map (λ x. process kind x drive) input

unfoldable pub block : Kind → Float → List Float → List Float → Told (List Float)
block kind drive input output =
    unless (eqb (length input) (length output)) (refused output LengthsDiffer)
    (unless (leb (length input) longest_block) (refused output TooLong)
    (unless (finite drive) (refused output OutOfRange)
    (unless (leb (length input) (first_refused input)) (refused output (BadSample (first_refused input)))
    (done (processed kind drive input)))))
