-- `eq_bands::names::number_of` meets its contract. Assumes nothing.
use Rattle.std.proofs.Common.{sym, ◌∙◌, arith, rules}
use borrow.Author.Tests.{tests}
use Rattle.eq_bands.proofs.Digits.{nothing, no_digit, too_large, onward, ended}
use Rattle.eq_bands.proofs.names.number_of.Goals as goal

pub returns-then-is_empty : goal.returns-then-is_empty
returns-then-is_empty c = sym (nothing _ (search (rules, tests)))

pub returns-then-not-is_ascii_digit : goal.returns-then-not-is_ascii_digit
returns-then-not-is_ascii_digit c =
    sym (no_digit c.loop-d.invariant c.loop-d-test.true (sym c.is_ascii_digit.ensures.value ∙ c.if-not-is_ascii_digit.true))

pub returns-in_err-checked_mul : goal.returns-in_err-checked_mul
returns-in_err-checked_mul c = c.from_residual.ensures ∙ sym (too_large c.loop-d.invariant c.loop-d-test.true (omega arith))

pub returns-in_err-number : goal.returns-in_err-number
returns-in_err-number c =
    c.from_residual-in_err-number.ensures ∙ sym (too_large c.loop-d.invariant c.loop-d-test.true (omega arith))

pub loop-d-preserved : goal.loop-d-preserved
loop-d-preserved c =
    onward c.loop-d.invariant c.loop-d-test.true c.in_ok-number.number (sym c.is_ascii_digit.ensures.value ∙ c.if-not-is_ascii_digit.false) (omega arith) (omega arith)

pub returns : goal.returns
returns c = sym (ended c.loop-d.invariant (λ e. search (rules, tests)) c.loop-d-test.false)
