-- A signal cut into blocks that are all done gives the same however it is cut, whatever the stage: a block that is done runs its samples one after the other, and blocks those of the signal.
-- Assumes nothing.
use mathlib.Core.Path.{◌≡◌, refl, sym, ap, ◌∙◌}
use mathlib.Core.Bool.{Bool}
use mathlib.Core.List.{List, [], ◌∷◌, ◌++◌}
use Prim.Native.Nat.{ℕ, ◌+◌}
use lib.Ieee.{Float}
use Rattle.answer.specs.Blocks.{checked_block}
use Rattle.answer.specs.Told.{Told, done_passed}
use Rattle.answer.proofs.Refusals.{never_nought}
use Rattle.answer.proofs.Told.{block-by}
use Rattle.fold.specs.Fold.{state_after, out_after}
use Rattle.fold.proofs.Parts.{state-parts, out-parts}
use Rattle.promises.specs.Signal.{Lent, joined, AllDone, left, given, counted, AnyCut}

-- ---- what samples do to a state, and that it is what their parts do, one after the other
pub record Run (S : Type 0) : Type 0 where
  pub after : S → List Float → S
  pub outputs : S → List Float → List Float
  pub count : S → List Float → ℕ
  pub after_none : (s : S) → after s [] ≡ s
  pub outputs-none : (s : S) → outputs s [] ≡ []
  pub count_none : (s : S) → count s [] ≡ 0
  pub after-parts : (s : S) (xs ys : List Float) → after s (xs ++ ys) ≡ after (after s xs) ys
  pub outputs-parts : (s : S) (xs ys : List Float) → outputs s (xs ++ ys) ≡ outputs s xs ++ outputs (after s xs) ys
  pub count-parts : (s : S) (xs ys : List Float) → count s (xs ++ ys) ≡ count s xs + count (after s xs) ys

-- a gate's state has a quiet count, and any other's is 0
module _ {S : Type 0} (run : Run S) (quiet : S → ℕ) where
  -- what is told of samples that were run, and what they give
  abbrev pub ran : S → List Float → Told S × List Float
  ran s xs = (done_passed (run.after s xs) (run.count s xs) (quiet (run.after s xs)), run.outputs s xs)

  -- ---- blocks of which each, where it is done, has run its samples
  module _ (block : S → List Float → List Float → Told S × List Float) (runs : (s : S) (xs out : List Float) → (block s xs out).0.number ≡ 0 → block s xs out ≡ ran s xs) where
    left_is : (s : S) (bs : List Lent) → AllDone block s bs → left block s bs ≡ run.after s (joined bs)
    left_is s [] d = sym (run.after_none s)
    left_is s (b ∷ bs) d =
        let is = runs s b.input b.output d.0 in
        left_is (block s b.input b.output).0.state bs d.1 ∙ rw is (sym (run.after-parts s b.input (joined bs)))

    given_is : (s : S) (bs : List Lent) → AllDone block s bs → given block s bs ≡ run.outputs s (joined bs)
    given_is s [] d = sym (run.outputs-none s)
    given_is s (b ∷ bs) d =
        let is = runs s b.input b.output d.0 in
        rw (given_is (block s b.input b.output).0.state bs d.1, is) (sym (run.outputs-parts s b.input (joined bs)))

    counted_is : (s : S) (bs : List Lent) → AllDone block s bs → counted block s bs ≡ run.count s (joined bs)
    counted_is s [] d = sym (run.count_none s)
    counted_is s (b ∷ bs) d =
        let is = runs s b.input b.output d.0 in
        rw (counted_is (block s b.input b.output).0.state bs d.1, is) (sym (run.count-parts s b.input (joined bs)))

    any-cut : AnyCut block
    any-cut = record {
      state = λ s bs cs d e same. left_is s bs d ∙ ap (run.after s) same ∙ sym (left_is s cs e);
      outputs = λ s bs cs d e same. given_is s bs d ∙ ap (run.outputs s) same ∙ sym (given_is s cs e);
      count = λ s bs cs d e same. counted_is s bs d ∙ ap (run.count s) same ∙ sym (counted_is s cs e);
    }

  -- ---- the chain of tests, and then the samples run
  module _ (acceptable : S → Bool) where
    abbrev pub checked : S → List Float → List Float → Told S × List Float
    checked s xs out = checked_block s out (ran s xs) (acceptable s) xs

    checked-runs : (s : S) (xs out : List Float) → (checked s xs out).0.number ≡ 0 → checked s xs out ≡ ran s xs
    checked-runs s xs out =
        block-by s xs out {rest = ran s xs} (λ t. t.0.number ≡ 0 → t ≡ ran s xs) (acceptable s)
        (λ r n. absurd (never_nought r (sym n)))
        (λ _ _ _. refl)

    pub checked-cut : AnyCut checked
    checked-cut = any-cut checked checked-runs

-- ---- a stage: settings that samples leave, registers that they change by the stage's step, and a count
module _ {S X : Type 0} (next : S → X → S) (s : S) where
  pub state-none : state_after next s [] ≡ s
  unfolding state_after
  state-none = refl

  pub out_none : {Y : Type 0} (out : S → X → Y) → out_after next out s [] ≡ []
  unfolding out_after
  out_none out = refl

module _ {C R S : Type 0} (of : C → R → S) (settings : S → C) (registers : S → R)
    (settings-of : (c : C) (r : R) → settings (of c r) ≡ c) (registers-of : (c : C) (r : R) → registers (of c r) ≡ r) (whole : (s : S) → of (settings s) (registers s) ≡ s)
    (next : C → R → Float → R) (output : C → R → Float → Float) (count : C → R → List Float → ℕ)
    (none : (c : C) (r : R) → count c r [] ≡ 0) (parts : (c : C) (r : R) (xs ys : List Float) → count c r (xs ++ ys) ≡ count c r xs + count c (state_after (next c) r xs) ys) where
  abbrev pub stage : Run S
  stage = record {
    after = λ s xs. of (settings s) (state_after (next (settings s)) (registers s) xs);
    outputs = λ s xs. out_after (next (settings s)) (output (settings s)) (registers s) xs;
    count = λ s xs. count (settings s) (registers s) xs;
    after_none = λ s. rw (state-none (next (settings s)) (registers s)) (whole s);
    outputs-none = λ s. out_none (next (settings s)) (registers s) (output (settings s));
    count_none = λ s. none (settings s) (registers s);
    after-parts = λ s xs ys. rw (settings-of, registers-of, state-parts (next (settings s)) (registers s) xs ys);
    outputs-parts = λ s xs ys. rw (settings-of, registers-of) (out-parts (next (settings s)) (output (settings s)) (registers s) xs ys);
    count-parts = λ s xs ys. rw (settings-of, registers-of) (parts (settings s) (registers s) xs ys);
  }
