-- Document 01's program as it goes through its input: a block of bytes after the other, and the two counts that it says at its end. Definitions only.
-- Assumes nothing.
use Rattle.std.specs.Prelude.{◌≡◌, List, [], ◌∷◌, ◌++◌, ℕ, ◌+◌, ◌*◌, ◌/◌, ◌%◌, ◌^◌, length, take}
use Rattle.answer.specs.Told.{Told}
use Rattle.fold.specs.Fold.{state_after}
use Rattle.noise_gate.specs.declared.Gate.{Gate}
use Rattle.pcm_gate.specs.Pass.{pass}
use Rattle.pcm_gate.specs.Program.{program_gate}

-- the gate after some blocks, their samples, and how many of these were aimed open at
pub record Run : Type 0 where
  pub gate : Gate
  pub samples : ℕ
  pub aimed : ℕ

abbrev pub begun : Run
begun = record { gate = program_gate; samples = 0; aimed = 0 }

-- a count of 64 bits
abbrev pub wrapped : ℕ → ℕ
wrapped n = n % 2 ^ 64

-- a run, with what a call on n bytes tells
abbrev pub counted : Run → Told Gate → ℕ → Run
counted t told n = record { gate = told.state; samples = wrapped (t.samples + n / 2); aimed = wrapped (t.aimed + told.count) }

-- a block more: what is told of it, the run after it, and the whole samples of its output; the call's buffer holds the input before it
abbrev pub told_of : Run → List ℕ → Told Gate
told_of t b = (pass t.gate b b).0

unfoldable pub turned : Run → List ℕ → Run
turned t b = counted t (told_of t b) (length b)

abbrev pub given : Run → List ℕ → List ℕ
given t b = take (length b / 2 * 2) (pass t.gate b b).1

-- ---- blocks, and a last one
abbrev pub joined : List (List ℕ) → List ℕ → List ℕ
joined [] last = last
joined (b ∷ blocks) last = b ++ joined blocks last

abbrev pub after : Run → List (List ℕ) → Run
after = state_after turned

abbrev pub ended : List (List ℕ) → List ℕ → Run
ended blocks last = turned (after begun blocks) last

abbrev pub given_all : Run → List (List ℕ) → List ℕ → List ℕ
given_all t [] last = given t last
given_all t (b ∷ blocks) last = given t b ++ given_all (turned t b) blocks last

-- each of a number of bytes that is even
abbrev pub Even : List (List ℕ) → Type 0
Even [] = Unit {0}
Even (b ∷ blocks) = (length b % 2 ≡ 0) × Even blocks

-- each as long as the program's buffer
abbrev pub block_bytes : ℕ
block_bytes = 4096

abbrev pub Full : List (List ℕ) → Type 0
Full [] = Unit {0}
Full (b ∷ blocks) = (length b ≡ block_bytes) × Full blocks
