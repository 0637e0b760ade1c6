-- A call that is a chain of tests, each with its refusal, and then done, leaves its state where it is refused; a block its buffer too.
-- Assumes nothing.
use Rattle.std.specs.Prelude.{Result, Ok, Err, ⊤}
use mathlib.Core.Path.{◌≡◌, refl}
use mathlib.Core.Bool.{Bool, true, false}
use mathlib.Core.List.{List}
use lib.ListN.{length}
use lib.Ieee.{Float}
use Rattle.answer.specs.Checks.{check_block}
use Rattle.answer.specs.Told.{Told, refused, unless, Unchanged}
use Rattle.answer.specs.Blocks.{passing, checked_block, BlockUnchanged}
use Rattle.answer.specs.declared.Refusal.{Refusal}
use Rattle.answer.specs.declared.Refusal.TheVariants.{BadState}

module _ {S : Type 0} {s : S} where
  pub unchanged-done : {t : Told S} → t.number ≡ 0 → Unchanged s t
  unchanged-done e = record { kept = λ n. absurd (n e) }

  pub unchanged-test : (test : Bool) (r : Refusal) {rest : Told S} → Unchanged s rest → Unchanged s (unless test (refused s r) rest)
  unchanged-test true r u = u
  unchanged-test false r u = record { kept = λ n. refl }

-- ---- a block: what holds of every refusal of it, and of what its samples do, holds of it
module _ {S : Type 0} (s : S) (samples out : List Float) {rest : Told S × List Float} (P : Told S × List Float → Type 0) where
  checked-by : ((r : Refusal) → P (refused s r, out)) → (check : Result ⊤ Refusal) → (check ≡ (Ok tt) → P rest) → P (passing s out rest check)
  checked-by refusals (Ok tt) passes = passes refl
  checked-by refusals (Err r) passes = refusals r

  pub block-by : (acceptable : Bool) → ((r : Refusal) → P (refused s r, out)) → (acceptable ≡ true → check_block samples (length out) ≡ (Ok tt) → P rest) → P (checked_block s out rest acceptable samples)
  unfolding checked_block
  block-by true refusals passes = checked-by refusals (check_block samples (length out)) (passes refl)
  block-by false refusals passes = refusals BadState

pub block-unchanged : {S : Type 0} (s : S) (samples out : List Float) (rest : Told S × List Float) (acceptable : Bool) → rest.0.number ≡ 0 → BlockUnchanged s out (checked_block s out rest acceptable samples)
block-unchanged s samples out rest acceptable e =
    block-by s samples out {rest = rest} (BlockUnchanged s out) acceptable
    (λ r. record { state = λ n. refl; buffer = λ n. refl })
    (λ _ _. record { state = λ n. absurd (n e); buffer = λ n. absurd (n e) })
