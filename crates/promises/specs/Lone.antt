-- What a lone follower and a lone DC blocker promise, in document 01's words. Statements only.
-- Assumes nothing.
use Rattle.std.specs.Prelude.{◌≡◌, ◌↔◌, Float, Result, ⊤}
use Rattle.answer.specs.Told.{refused, told, told_read, Unchanged}
use Rattle.answer.specs.declared.Refusal.{Refusal}
use Rattle.answer.specs.declared.Refusal.TheVariants.{BadState}
use Rattle.common.specs.Follower as follower
use Rattle.common.specs.Blocker as blocker
use Rattle.common.specs.declared.follower.Follower.{Follower}
use Rattle.common.specs.declared.blocker.Blocker.{Blocker}

-- "No refusal changes a state or an output buffer."
pub record Refusals : Type 0 where
  pub follower_step : (f : Follower) (x : Float) → Unchanged f (follower.step f x)
  pub follower_reset : (f : Follower) → Unchanged f (follower.reset f)
  pub blocker_step : (b : Blocker) (x : Float) → Unchanged b (blocker.step b x)
  pub blocker_reset : (b : Blocker) → Unchanged b (blocker.reset b)

-- "A refused making gives a state .. which 9 refuses ever after (a lone follower or blocker: its c are 1)."
pub record Unmade : Type 0 where
  pub follower_make : (attack release : Float) → Unchanged follower.unmade (follower.make attack release)
  pub follower_step : (x : Float) → follower.step follower.unmade x ≡ refused follower.unmade BadState
  pub follower_reset : follower.reset follower.unmade ≡ refused follower.unmade BadState
  pub blocker_make : (c : Float) → Unchanged blocker.unmade (blocker.make c)
  pub blocker_step : (x : Float) → blocker.step blocker.unmade x ≡ refused blocker.unmade BadState
  pub blocker_reset : blocker.reset blocker.unmade ≡ refused blocker.unmade BadState

-- c that could have been made: those of a state whose making was done
pub record FollowerMade (f : Follower) : Type 0 where
  pub attack : Float
  pub release : Float
  pub made : (follower.make attack release).number ≡ 0
  pub its_attack : (follower.make attack release).state.attack ≡ f.attack
  pub its_release : (follower.make attack release).state.release ≡ f.release

pub record BlockerMade (b : Blocker) : Type 0 where
  pub c : Float
  pub made : (blocker.make c).number ≡ 0
  pub its_c : (blocker.make c).state.c ≡ b.c

-- 9 is given "exactly when .. worked numbers couldn't have been .. made": a step or a reset is done exactly on a state whose c could have been, whatever bits its registers hold
pub record Exactly : Type 0 where
  pub follower_step : (f : Follower) (x : Float) → ((follower.step f x).number ≡ 0) ↔ FollowerMade f
  pub follower_reset : (f : Follower) → ((follower.reset f).number ≡ 0) ↔ FollowerMade f
  pub blocker_step : (b : Blocker) (x : Float) → ((blocker.step b x).number ≡ 0) ↔ BlockerMade b
  pub blocker_reset : (b : Blocker) → ((blocker.reset b).number ≡ 0) ↔ BlockerMade b

-- and making and every call leave such c, so 9 refuses none of the states that they leave
pub record Accepted : Type 0 where
  pub follower_make : (attack release : Float) → (follower.make attack release).number ≡ 0 → FollowerMade (follower.make attack release).state
  pub follower_step : (f : Follower) (x : Float) → FollowerMade f → FollowerMade (follower.step f x).state
  pub follower_reset : (f : Follower) → FollowerMade f → FollowerMade (follower.reset f).state
  pub blocker_make : (c : Float) → (blocker.make c).number ≡ 0 → BlockerMade (blocker.make c).state
  pub blocker_step : (b : Blocker) (x : Float) → BlockerMade b → BlockerMade (blocker.step b x).state
  pub blocker_reset : (b : Blocker) → BlockerMade b → BlockerMade (blocker.reset b).state

-- no two answers tell the same: what a call tells gives its state and its answer back
pub record Answers : Type 0 where
  pub follower_answer : (f g : Follower) (a b : Result ⊤ Refusal) → told f a ≡ told g b → (f ≡ g) × (a ≡ b)
  pub follower_output : (f g : Follower) (a b : Result Float Refusal) → told_read f a ≡ told_read g b → (f ≡ g) × (a ≡ b)
  pub blocker_answer : (b c : Blocker) (p q : Result ⊤ Refusal) → told b p ≡ told c q → (b ≡ c) × (p ≡ q)
  pub blocker_output : (b c : Blocker) (p q : Result Float Refusal) → told_read b p ≡ told_read c q → (b ≡ c) × (p ≡ q)
