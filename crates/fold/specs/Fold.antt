-- A block is its samples one after the other: the state after it, what it writes, and how many of its samples pass a test. For any state, sample and step.
-- Definitions only. Assumes nothing.
use Rattle.std.specs.Prelude.{ℕ, suc, Bool, true, false, List, [], ◌∷◌}

-- n, or one more where the test holds
abbrev pub more : Bool → ℕ → ℕ
more true n = suc n
more false n = n

module _ {S X : Type 0} (next : S → X → S) where
  unfoldable pub state_after : S → List X → S
  state_after s [] = s
  state_after s (x ∷ xs) = state_after (next s x) xs

  unfoldable pub out_after : {Y : Type 0} → (S → X → Y) → S → List X → List Y
  out_after out s [] = []
  out_after out s (x ∷ xs) = out s x ∷ out_after out (next s x) xs

  unfoldable pub count_after : (S → X → Bool) → S → List X → ℕ
  count_after test s [] = 0
  count_after test s (x ∷ xs) = more (test s x) (count_after test (next s x) xs)

-- ---- two stages in a row: what the first writes is the second's sample
module _ {S R X Y : Type 0} (next : S → X → S) (out : S → X → Y) (next₂ : R → Y → R) where
  abbrev pub pair_next : S × R → X → S × R
  pair_next p x = (next p.0 x, next₂ p.1 (out p.0 x))

  abbrev pub pair_out : {Z : Type 0} → (R → Y → Z) → S × R → X → Z
  pair_out out₂ p x = out₂ p.1 (out p.0 x)
