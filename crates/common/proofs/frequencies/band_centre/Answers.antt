-- `common::frequencies::band_centre` meets its contract. Assumes nothing.
use Rattle.std.specs.Prelude.{Some, None}
use mathlib.Core.Path.{sym}
use native.Mathlib.Omega.{arith}
use mathlib.Core.List.{map}
use lib.ListN.{get_or-eq_default}
use lib.Ieee.{nan, of_bits}
use Rattle.common.specs.Frequencies.{centres, band_centre}
use Rattle.common.proofs.Lookup.{found}
use Rattle.common.proofs.frequencies.band_centre.Goals as goal

pub returns-then-band-lt16 : goal.returns-then-band-lt16
unfolding band_centre centres of_bits
returns-then-band-lt16 c = found Some centres c.args.band nan None (omega arith)

pub returns-else-band-lt16 : goal.returns-else-band-lt16
unfolding band_centre centres
returns-else-band-lt16 c = sym (get_or-eq_default (map Some centres) None c.if-band-lt16.false)
