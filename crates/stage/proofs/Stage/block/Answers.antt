-- `stage::Stage::block` meets its contract. Assumes nothing.
use Rattle.std.proofs.Common.{rules, sym, ◌∙◌}
use Rattle.answer.specs.Blocks.{checked_block}
use Rattle.answer.proofs.Blocks.{accepted}
use Rattle.stage.proofs.Stage.block.Goals as goal

pub returns-in_err-check : goal.returns-in_err-check
unfolding checked_block
returns-in_err-check g c = search rules

pub returns-in_err-check_block : goal.returns-in_err-check_block
unfolding checked_block
returns-in_err-check_block g c = search rules

pub run-requires : goal.run-requires
run-requires g c = (accepted _ _ (sym c.check_block.ensures ∙ c.in_ok-check_block.was)).agree

pub returns : goal.returns
unfolding checked_block
returns g c = search rules
