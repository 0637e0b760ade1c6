-- A block cut anywhere is its parts one after the other; and its sample at a place is the step's, in the state that the samples before it leave.
-- Assumes nothing.
use mathlib.Core.Path.{◌≡◌, refl, ap}
use mathlib.Core.Bool.{Bool, true, false}
use mathlib.Core.List.{List, [], ◌∷◌, ◌++◌}
use Prim.Native.Nat.{ℕ, zero, suc, ◌+◌, ◌≤◌, ◌<◌, zero-le}
use native.Mathlib.Nat.{le_of_suc-le-suc, not-suc-le-zero}
use native.Mathlib.Omega.{arith}
use lib.ListN.{length, take, get_or}
use Rattle.fold.specs.Fold.{more, state_after, out_after, count_after}

module _ {S X : Type 0} (next : S → X → S) where
  pub state-parts : (s : S) (xs ys : List X) → state_after next s (xs ++ ys) ≡ state_after next (state_after next s xs) ys
  unfolding state_after
  state-parts s [] ys = refl
  state-parts s (x ∷ xs) ys = state-parts (next s x) xs ys

  module _ {Y : Type 0} (out : S → X → Y) where
    pub out-parts : (s : S) (xs ys : List X) → out_after next out s (xs ++ ys) ≡ out_after next out s xs ++ out_after next out (state_after next s xs) ys
    unfolding state_after out_after
    out-parts s [] ys = refl
    out-parts s (x ∷ xs) ys = ap (λ (l : List Y). out s x ∷ l) (out-parts (next s x) xs ys)

    -- a block writes as many as it reads
    pub out-length : (s : S) (xs : List X) → length (out_after next out s xs) ≡ length xs
    unfolding out_after
    out-length s [] = refl
    out-length s (x ∷ xs) = ap suc (out-length (next s x) xs)

    pub out_at : (s : S) (xs : List X) (k : ℕ) (d : X) (e : Y) → k < length xs → get_or (out_after next out s xs) k e ≡ out (state_after next s (take k xs)) (get_or xs k d)
    unfolding state_after out_after
    out_at s [] k d e h = absurd (not-suc-le-zero h)
    out_at s (x ∷ xs) zero d e h = refl
    out_at s (x ∷ xs) (suc k) d e h = out_at (next s x) xs k d e (le_of_suc-le-suc h)

  module _ (test : S → X → Bool) where
    pub count-parts : (s : S) (xs ys : List X) → count_after next test s (xs ++ ys) ≡ count_after next test s xs + count_after next test (state_after next s xs) ys
    unfolding state_after count_after
    count-parts s [] ys = omega arith
    count-parts s (x ∷ xs) ys = rw (count-parts (next s x) xs ys) (more-plus (test s x) (count_after next test (next s x) xs) (count_after next test (state_after next (next s x) xs) ys))
      where
        more-plus : (b : Bool) (n m : ℕ) → more b (n + m) ≡ more b n + m
        more-plus true n m = omega arith
        more-plus false n m = refl

    -- at most every sample is counted
    pub count_most : (s : S) (xs : List X) → count_after next test s xs ≤ length xs
    unfolding count_after
    count_most s [] = zero-le
    count_most s (x ∷ xs) = more-most (test s x) (count_after next test (next s x) xs) (length xs) (count_most (next s x) xs)
      where
        more-most : (b : Bool) (n m : ℕ) → n ≤ m → more b n ≤ suc m
        more-most true n m h = omega arith
        more-most false n m h = omega arith
