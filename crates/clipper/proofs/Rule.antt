-- The triode's table keeps document 01's rule: first entry -1, last 1, never falling. Tested once over the whole table, and carried to every place that a lookup reads.
-- Assumes nothing.
use mathlib.Core.Path.{◌≡◌, refl}
use Prim.Native.Nat.{ℕ, suc, ◌<◌}
use lib.Dec.{T}
use lib.Ieee.{nan, le, neg, of_bits}
use Rattle.answer.specs.Figures.{one}
use Rattle.clipper.specs.Table.{table_bits, table, entry}
use Rattle.clipper.specs.Process.{minus_one}
use Rattle.clipper.proofs.Entries.{inside, inside-at, rising, rising-at}

pub first : entry 0 ≡ minus_one
unfolding entry table table_bits of_bits neg
first = refl

pub last : entry 255 ≡ one
unfolding entry table table_bits of_bits
last = refl

all-inside : T (inside minus_one one nan table)
unfolding table table_bits of_bits le neg
all-inside = tt

all-rise : T (rising table)
unfolding table table_bits of_bits le
all-rise = tt

pub never_falls : (i : ℕ) → suc i < 256 → T (le (entry i) (entry (suc i)))
unfolding entry table table_bits
never_falls i h = rising-at nan table all-rise i h

pub within : (i : ℕ) → i < 256 → T (le minus_one (entry i)) × T (le (entry i) one)
unfolding entry table table_bits
within i h = inside-at minus_one one nan table all-inside i h
