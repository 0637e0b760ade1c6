-- Words of two and four bytes in a list of bytes, the lowest byte first; and a number's bytes. Definitions only.
-- Assumes nothing.
use Rattle.std.specs.Prelude.{ℕ, ◌+◌, ◌*◌, ◌/◌, ◌%◌, ◌<◌, cond, List, [], ◌∷◌, ◌++◌, Option, Some, None, leb, length, take, drop, get_or, set}

-- a list of bytes
abbrev pub Bytes : List ℕ → Type 0
Bytes s = (i : ℕ) → get_or s i 0 < 0x100

-- the word whose lowest byte stands at a place
unfoldable pub word16 : List ℕ → ℕ → ℕ
word16 s at = get_or s at 0 + get_or s (at + 1) 0 * 0x100

unfoldable pub word32 : List ℕ → ℕ → ℕ
unfolding word16
word32 s at = word16 s at + word16 s (at + 2) * 0x1_0000

-- the same, and 0 where not all of its bytes lie in the list
unfoldable pub word16_at : List ℕ → ℕ → ℕ
unfolding word16
word16_at s at = cond (leb (at + 2) (length s)) (word16 s at) 0

unfoldable pub word32_at : List ℕ → ℕ → ℕ
unfolding word32
word32_at s at = cond (leb (at + 4) (length s)) (word32 s at) 0

-- the list with a word's bytes from a place on
unfoldable pub put16 : List ℕ → ℕ → ℕ → List ℕ
put16 s at n = set (set s at (n % 0x100)) (at + 1) (n / 0x100)

unfoldable pub put32 : List ℕ → ℕ → ℕ → List ℕ
unfolding put16
put32 s at n = put16 (put16 s at (n % 0x1_0000)) (at + 2) (n / 0x1_0000)

-- the same, and the list as it is where not all of the bytes would lie in it
unfoldable pub put16_at : List ℕ → ℕ → ℕ → List ℕ
unfolding put16
put16_at s at n = cond (leb (at + 2) (length s)) (put16 s at n) s

unfoldable pub put32_at : List ℕ → ℕ → ℕ → List ℕ
unfolding put32
put32_at s at n = cond (leb (at + 4) (length s)) (put32 s at n) s

-- ---- a number's bytes, below 2^16 and below 2^32
abbrev pub le16 : ℕ → List ℕ
le16 n = n % 0x100 ∷ n / 0x100 ∷ []

abbrev pub le32 : ℕ → List ℕ
le32 n = le16 (n % 0x1_0000) ++ le16 (n / 0x1_0000)

-- ---- so many bytes from a place on, and the list with bytes there; none, and the list as it is, where not all of them lie in it
abbrev pub bytes_at : ℕ → List ℕ → ℕ → Option (List ℕ)
bytes_at n s at = cond (leb (at + n) (length s)) (Some (take n (drop at s))) None

abbrev pub put_at : ℕ → List ℕ → ℕ → List ℕ → List ℕ
put_at n s at bytes = cond (leb (at + n) (length s)) (take at s ++ (bytes ++ drop (at + n) s)) s
