-- `answer::check_block` meets its contract. Assumes nothing.
use borrow.Author.Tests.{eq-eqb, ne_eqb, le-leb, lt-leb}
use Rattle.answer.specs.Checks.{check_block}
use Rattle.answer.proofs.check_block.Goals as goal

pub returns-then-samples-places : goal.returns-then-samples-places
unfolding check_block
returns-then-samples-places c = rw (ne_eqb _ _ c.if-samples-places.true)

pub returns-then-samples-gt-LONGEST_BLOCK : goal.returns-then-samples-gt-LONGEST_BLOCK
unfolding check_block
returns-then-samples-gt-LONGEST_BLOCK c = rw (eq-eqb _ _ c.if-samples-places.false, lt-leb _ _ c.if-samples-gt-LONGEST_BLOCK.true)

pub returns-then-place-samples : goal.returns-then-place-samples
unfolding check_block
returns-then-place-samples c =
    rw (eq-eqb _ _ c.if-samples-places.false, le-leb _ _ c.if-samples-gt-LONGEST_BLOCK.false, ← c.first_refused-place.ensures, lt-leb _ _ c.if-place-samples.true)

pub returns : goal.returns
unfolding check_block
returns c =
    rw (eq-eqb _ _ c.if-samples-places.false, le-leb _ _ c.if-samples-gt-LONGEST_BLOCK.false, ← c.first_refused-place.ensures, le-leb _ _ c.if-place-samples.false)
