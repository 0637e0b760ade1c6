-- Document 01's proved table holds: every row of P1 to P10, by computing the definitions.
-- Assumes nothing.
use mathlib.Core.Path.{◌≡◌, refl}
use Rattle.proved_table.specs.Table.{p1, p2, p3, p4, p5, p6, p7, p8, p9, p10, table, given, said}

pub proved : given ≡ said
unfolding table p1 p2 p3 p4 p5 p6 p7 p8 p9 p10
proved = refl
