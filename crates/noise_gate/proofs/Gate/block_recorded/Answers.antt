-- `noise_gate::Gate::block_recorded` meets its contract. Assumes nothing.
use Rattle.std.proofs.Common.{sym, ◌∙◌}
use Rattle.answer.proofs.Blocks.{accepted}
use Rattle.noise_gate.proofs.Gate.block_recorded.Goals as goal

pub run_recorded-requires : goal.run_recorded-requires
run_recorded-requires c = (accepted _ _ (sym c.check_block.ensures ∙ c.in_ok-check_block.was)).agree
