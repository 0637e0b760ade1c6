-- What 9 accepts. Definitions only.
-- Assumes nothing.
use Rattle.std.specs.Prelude.{Bool, ◌&&◌, leb}
use Rattle.answer.specs.Figures.{f32, nought, one, largest_sample}
use Rattle.answer.specs.Checks.{in_range}
use Rattle.noise_gate_settings.specs.Ranges.{settable}
use Rattle.noise_gate.specs.Figures.{longest_count}
use Rattle.noise_gate_sample.specs.declared.Registers.{Registers}
use Rattle.noise_gate.specs.declared.Gate.{Gate}

-- level 0 to 64, state 0 to 1, counter 0 to 96,000; any quiet count
unfoldable pub in_bounds : Registers → Bool
in_bounds m = in_range nought (f32 largest_sample 1) m.level && (in_range nought one m.state && leb m.counter longest_count)

-- settings, rate and worked numbers that could have been set or made; registers in bounds
unfoldable pub acceptable : Gate → Bool
acceptable g = settable g.settings && in_bounds g.registers
