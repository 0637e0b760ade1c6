-- The clipper keeps what the page `Clipper` promises.
-- Assumes nothing.
mod Bounded
mod Held
mod Range
pub mod Done
use mathlib.Core.Path.{refl}
use lib.Dec.{eqb, leb}
use lib.ListN.{length}
use lib.Ieee.Scale.{finite}
use Rattle.answer.specs.Figures.{longest_block}
use Rattle.answer.specs.Checks.{first_refused}
use Rattle.answer.specs.declared.Refusal.TheVariants.{OutOfRange, BadSample, LengthsDiffer, TooLong}
use Rattle.answer.proofs.Answers.{answer_back}
use Rattle.answer.proofs.Told.{unchanged-done, unchanged-test}
use Rattle.clipper.specs.Block.{block}
use Rattle.clipper.proofs.Rule as rule
use Rattle.promises.specs.Clipper.{TableRule, Refusals, Output, Answers}
use Rattle.promises.proofs.Clipper.Range.{process-between}
use Rattle.promises.proofs.Clipper.Done.{written}

pub table-rule : TableRule
table-rule = record { first = rule.first; last = rule.last; never_falls = rule.never_falls }

pub refusals : Refusals
unfolding block
refusals = record {
  block = λ kind drive input output.
      unchanged-test (eqb (length input) (length output)) LengthsDiffer
      (unchanged-test (leb (length input) longest_block) TooLong
      (unchanged-test (finite drive) OutOfRange
      (unchanged-test (leb (length input) (first_refused input)) (BadSample (first_refused input)) (unchanged-done refl))));
}

pub output : Output
output = record { sample = process-between; block = written }

pub answers : Answers
answers = record { answer = λ s t. answer_back }
