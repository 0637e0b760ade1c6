-- Truncation as rows: the bit pattern of an f32, the whole number that is given back, and the word's number. Definitions only.
-- Assumes nothing.
use Rattle.std.specs.Prelude.{ℕ, ◌-◌, ◌^◌, List, [], ◌∷◌, map}
use Rattle.std.specs.Float.{binary32}
use Rattle.std.specs.Float.Ieee.{of_bits, eq, to_unsigned}
use Rattle.float.specs.Truncating.{exactness, number}

pub record Row : Type 0 where
  pub argument : ℕ
  pub whole : ℕ
  pub word : ℕ

-- what the definitions give, on bits
unfoldable pub on_bits : Row → Row
unfolding of_bits to_unsigned exactness eq
on_bits r = let x = of_bits binary32 r.argument in record { argument = r.argument; whole = to_unsigned 64 x; word = number (exactness x) }

-- the zeros; -1/4 and -1; a NaN and the infinities; 2 ^ 64, and the f32 below it; 1 and the f32 above it; 2 ^ 23 - 1/2, 2 ^ 24 and 2 ^ 24 + 2; the smallest of all, and the largest; 3.0000002, which is 1/16 ms at 48,000 Hz, and 2,400, which is 50 ms
unfoldable pub rows : List Row
rows =
    record { argument = 0; whole = 0; word = 1 }
    ∷ record { argument = 0x8000_0000; whole = 0; word = 1 }
    ∷ record { argument = 0xbe80_0000; whole = 0; word = 2 }
    ∷ record { argument = 0xbf80_0000; whole = 0; word = 2 }
    ∷ record { argument = 0x7fc0_0000; whole = 0; word = 2 }
    ∷ record { argument = 0x7f80_0000; whole = 2 ^ 64 - 1; word = 2 }
    ∷ record { argument = 0xff80_0000; whole = 0; word = 2 }
    ∷ record { argument = 0x5f80_0000; whole = 2 ^ 64 - 1; word = 2 }
    ∷ record { argument = 0x5f7f_ffff; whole = 2 ^ 64 - 2 ^ 40; word = 1 }
    ∷ record { argument = 0x3f80_0000; whole = 1; word = 1 }
    ∷ record { argument = 0x3f80_0001; whole = 1; word = 2 }
    ∷ record { argument = 0x4aff_ffff; whole = 8388607; word = 2 }
    ∷ record { argument = 0x4b80_0000; whole = 16777216; word = 1 }
    ∷ record { argument = 0x4b80_0001; whole = 16777218; word = 1 }
    ∷ record { argument = 0x0000_0001; whole = 0; word = 2 }
    ∷ record { argument = 0x7f7f_ffff; whole = 2 ^ 64 - 1; word = 2 }
    ∷ record { argument = 0x4040_0001; whole = 3; word = 2 }
    ∷ record { argument = 0x4516_0000; whole = 2400; word = 1 }
    ∷ []

-- what the definitions give, row by row
abbrev pub given : List Row
given = map on_bits rows
