-- Roots as rows: the bit pattern of an f32, and that of its root by IEEE 754. Definitions only.
-- Assumes nothing.
use Rattle.std.specs.Prelude.{ℕ, List, [], ◌∷◌, map}
use Rattle.std.specs.Float.{binary32}
use Rattle.std.specs.Float.Ieee.{of_bits, to_bits}
use Rattle.root.specs.Root.{root}

pub record Row : Type 0 where
  pub argument : ℕ
  pub said : ℕ

-- what the definition gives, on bits
unfoldable pub on_bits : ℕ → ℕ
unfolding root of_bits to_bits
on_bits b = to_bits binary32 (root binary32 (of_bits binary32 b))

-- the zeros and 1; 2, 9 and 1/4; the neighbours of 1 and of 4; the smallest of all, the least normal and the largest; the infinities, -1 and a NaN
unfoldable pub rows : List Row
rows =
    record { argument = 0; said = 0 }
    ∷ record { argument = 0x8000_0000; said = 0x8000_0000 }
    ∷ record { argument = 0x3f80_0000; said = 0x3f80_0000 }
    ∷ record { argument = 0x4000_0000; said = 0x3fb5_04f3 }
    ∷ record { argument = 0x4110_0000; said = 0x4040_0000 }
    ∷ record { argument = 0x3e80_0000; said = 0x3f00_0000 }
    ∷ record { argument = 0x3f7f_ffff; said = 0x3f7f_ffff }
    ∷ record { argument = 0x3f80_0001; said = 0x3f80_0000 }
    ∷ record { argument = 0x407f_ffff; said = 0x3fff_ffff }
    ∷ record { argument = 0x4080_0001; said = 0x4000_0000 }
    ∷ record { argument = 0x0000_0001; said = 0x1a35_04f3 }
    ∷ record { argument = 0x0080_0000; said = 0x2000_0000 }
    ∷ record { argument = 0x7f7f_ffff; said = 0x5f7f_ffff }
    ∷ record { argument = 0x7f80_0000; said = 0x7f80_0000 }
    ∷ record { argument = 0xff80_0000; said = 0x7fc0_0000 }
    ∷ record { argument = 0xbf80_0000; said = 0x7fc0_0000 }
    ∷ record { argument = 0xffff_ffff; said = 0x7fc0_0000 }
    ∷ []

-- what the definition gives, and what is said, row by row
abbrev pub given : List ℕ
given = map (λ (r : Row). on_bits r.argument) rows

abbrev pub said : List ℕ
said = map (λ (r : Row). r.said) rows
