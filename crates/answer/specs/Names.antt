-- Byte strings: setting names, and what stands before the number in one. Definitions only.
-- Assumes nothing.
use Rattle.std.specs.Prelude.{ℕ, Bool, true, false, ◌&&◌, cond, List, [], ◌∷◌, eqb}
use Prim.Native.Char.{code}
use Prim.Native.String.{String, [] as end, ◌∷◌ as first}

-- a word of ASCII characters as bytes
abbrev pub bytes : String → List ℕ
bytes end = []
bytes (first c s) = code c ∷ bytes s

-- the two lists are equal
unfoldable pub same : List ℕ → List ℕ → Bool
same [] [] = true
same [] (y ∷ b) = false
same (x ∷ a) [] = false
same (x ∷ a) (y ∷ b) = eqb x y && same a b

-- a table of names: what the first equal one stands for, and what a name that is in none of its rows gets
abbrev pub pick : {A : Type 0} → List ℕ → List (List ℕ × A) → A → A
pick name [] other = other
pick name (row ∷ rows) other = cond (same name row.0) row.1 (pick name rows other)
