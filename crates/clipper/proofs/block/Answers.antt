-- `clipper::block` meets its contract. Assumes nothing.
use Rattle.std.proofs.Common.{sym, ◌∙◌, ap, arith, length}
use borrow.Author.Tests.{eq-eqb, le-leb, lt-leb}
use Rattle.answer.specs.Figures.{longest_block}
use Rattle.answer.specs.Told.{done}
use Rattle.clipper.specs.Block.{block}
use Rattle.clipper.proofs.block.Goals as goal

pub returns-then-place-input : goal.returns-then-place-input
unfolding block
returns-then-place-input c =
    rw (eq-eqb (length c.args.input.now) (length c.args.output.now) (omega arith), le-leb (length c.args.input.now) longest_block (omega arith), sym c.finite32.ensures ∙ c.if-not-finite32.false, ← c.first_refused-place.ensures, lt-leb _ _ c.if-place-input.true)

pub returns : goal.returns
unfolding block
returns c =
    rw (eq-eqb (length c.args.input.now) (length c.args.output.now) (omega arith), le-leb (length c.args.input.now) longest_block (omega arith), sym c.finite32.ensures ∙ c.if-not-finite32.false, ← c.first_refused-place.ensures, le-leb _ _ c.if-place-input.false) (ap done c.process_all.ensures)
