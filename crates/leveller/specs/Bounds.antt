-- What 9 accepts. Definitions only.
-- Assumes nothing.
use Rattle.std.specs.Prelude.{Bool, ◌&&◌}
use Rattle.answer.specs.Figures.{f32, nought, largest_sample}
use Rattle.answer.specs.Checks.{in_range}
use Rattle.leveller_settings.specs.Ranges.{settable}
use Rattle.leveller_sample.specs.declared.Registers.{Registers}
use Rattle.leveller.specs.declared.Leveller.{Leveller}

-- level 0 to 64, NaN refused
unfoldable pub in_bounds : Registers → Bool
in_bounds m = in_range nought (f32 largest_sample 1) m.level

-- settings, rate and worked numbers that could have been set or made; level in bounds
unfoldable pub acceptable : Leveller → Bool
acceptable l = settable l.settings && in_bounds l.registers
