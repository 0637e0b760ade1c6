-- A lone follower and a lone DC blocker keep what the page `Lone` promises.
-- Assumes nothing.
use mathlib.Core.Path.{◌≡◌, refl, sym, ap, ◌∙◌, subst}
use mathlib.Core.Bool.{Bool, true, false}
use mathlib.Core.Logic.{◌↔◌}
use lib.Dec.{T}
use lib.Ieee.{Float, le, lt}
use Rattle.answer.specs.Figures.{nought, one}
use Rattle.answer.specs.Checks.{is_smoothing}
use Rattle.answer.specs.Told.{Told, refused, done, unless}
use Rattle.answer.specs.declared.Refusal.{Refusal}
use Rattle.answer.specs.declared.Refusal.TheVariants.{BadWorkedNumber, BadState}
use Rattle.answer.proofs.Told.{unchanged-done, unchanged-test}
use Rattle.answer.proofs.Answers.{answer_back, reading-back}
use Rattle.answer.proofs.Refusals.{never_nought}
use Rattle.common.specs.Follower as follower
use Rattle.common.specs.Blocker as blocker
use Rattle.common.specs.declared.follower.Follower.{Follower}
use Rattle.common.specs.declared.blocker.Blocker.{Blocker}
use Rattle.silence.proofs.Along.{by}
use Rattle.promises.specs.Lone.{Refusals, Unmade, FollowerMade, BlockerMade, Exactly, Accepted, Answers}

pub refusals : Refusals
unfolding follower.step follower.reset blocker.step blocker.reset
refusals = record {
  follower_step = λ f x. unchanged-test (follower.acceptable f.attack f.release) BadState (unchanged-done refl);
  follower_reset = λ f. unchanged-test (follower.acceptable f.attack f.release) BadState (unchanged-done refl);
  blocker_step = λ b x. unchanged-test (is_smoothing b.c) BadState (unchanged-done refl);
  blocker_reset = λ b. unchanged-test (is_smoothing b.c) BadState (unchanged-done refl);
}

-- a refused making's c are 1, which is no smoothing number
one-refused : is_smoothing one ≡ false
unfolding is_smoothing le lt
one-refused = refl

pub unmade : Unmade
unfolding follower.make follower.step follower.reset follower.acceptable blocker.make blocker.step blocker.reset
unmade = record {
  follower_make = λ attack release. unchanged-test (follower.acceptable attack release) BadWorkedNumber (unchanged-done refl);
  follower_step = λ x. rw one-refused;
  follower_reset = rw one-refused;
  blocker_make = λ c. unchanged-test (is_smoothing c) BadWorkedNumber (unchanged-done refl);
  blocker_step = λ x. rw one-refused;
  blocker_reset = rw one-refused;
}

-- ---- a call with one test is done exactly if it holds, and leaves what it says
module _ {S : Type 0} (s : S) (r : Refusal) (rest : Told S) where
  done-exactly : (test : Bool) → rest.number ≡ 0 → ((unless test (refused s r) rest).number ≡ 0) ↔ T test
  done-exactly true e = (λ _. tt, λ _. e)
  done-exactly false e = (λ h. absurd (never_nought r (sym h)), λ t. absurd t)

  where-done : (test : Bool) → T test → unless test (refused s r) rest ≡ rest
  where-done true t = refl
  where-done false t = absurd t

-- ---- c that 9 accepts are those of a done making
abbrev FollowerTakes : Follower → Type 0
FollowerTakes f = T (follower.acceptable f.attack f.release)

module _ (attack release : Float) where
  follower-taken : (follower.make attack release).number ≡ 0 → T (follower.acceptable attack release)
  unfolding follower.make
  follower-taken = (done-exactly follower.unmade BadWorkedNumber _ (follower.acceptable attack release) refl).0

  follower-makes : T (follower.acceptable attack release) → follower.make attack release ≡ done (follower.with_level attack release nought)
  unfolding follower.make
  follower-makes = where-done follower.unmade BadWorkedNumber _ (follower.acceptable attack release)

module _ (f : Follower) where
  follower-made : FollowerTakes f → FollowerMade f
  follower-made t =
      let e = follower-makes f.attack f.release t in
      record { attack = f.attack; release = f.release; made = ap (λ (t : Told Follower). t.number) e; its_attack = ap (λ (t : Told Follower). t.state.attack) e; its_release = ap (λ (t : Told Follower). t.state.release) e }

  follower-takes : FollowerMade f → FollowerTakes f
  follower-takes m =
      let t = follower-taken m.attack m.release m.made in
      let e = follower-makes m.attack m.release t in
      let a : m.attack ≡ f.attack = sym (ap (λ (t : Told Follower). t.state.attack) e) ∙ m.its_attack in
      let r : m.release ≡ f.release = sym (ap (λ (t : Told Follower). t.state.release) e) ∙ m.its_release in
      subst (λ (c : Float). T (follower.acceptable f.attack c)) r (subst (λ (c : Float). T (follower.acceptable c m.release)) a t)

module _ (c : Float) where
  blocker-taken : (blocker.make c).number ≡ 0 → T (is_smoothing c)
  unfolding blocker.make
  blocker-taken = (done-exactly blocker.unmade BadWorkedNumber _ (is_smoothing c) refl).0

  blocker-makes : T (is_smoothing c) → blocker.make c ≡ done (blocker.at_rest c)
  unfolding blocker.make
  blocker-makes = where-done blocker.unmade BadWorkedNumber _ (is_smoothing c)

module _ (b : Blocker) where
  blocker-made : T (is_smoothing b.c) → BlockerMade b
  blocker-made t =
      let e = blocker-makes b.c t in
      record { c = b.c; made = ap (λ (t : Told Blocker). t.number) e; its_c = ap (λ (t : Told Blocker). t.state.c) e }

  blocker-takes : BlockerMade b → T (is_smoothing b.c)
  blocker-takes m =
      let t = blocker-taken m.c m.made in
      let e = blocker-makes m.c t in
      subst (λ (c : Float). T (is_smoothing c)) (sym (ap (λ (t : Told Blocker). t.state.c) e) ∙ m.its_c) t

-- a test that holds exactly of the states that could have been made
follower-exactly : (f : Follower) (rest : Told Follower) → rest.number ≡ 0 → ((unless (follower.acceptable f.attack f.release) (refused f BadState) rest).number ≡ 0) ↔ FollowerMade f
follower-exactly f rest e =
    let d = done-exactly f BadState rest (follower.acceptable f.attack f.release) e in
    (λ h. follower-made f (d.0 h), λ m. d.1 (follower-takes f m))

blocker-exactly : (b : Blocker) (rest : Told Blocker) → rest.number ≡ 0 → ((unless (is_smoothing b.c) (refused b BadState) rest).number ≡ 0) ↔ BlockerMade b
blocker-exactly b rest e =
    let d = done-exactly b BadState rest (is_smoothing b.c) e in
    (λ h. blocker-made b (d.0 h), λ m. d.1 (blocker-takes b m))

pub exactly : Exactly
unfolding follower.step follower.reset blocker.step blocker.reset
exactly = record {
  follower_step = λ f x. follower-exactly f _ refl;
  follower_reset = λ f. follower-exactly f _ refl;
  blocker_step = λ b x. blocker-exactly b _ refl;
  blocker_reset = λ b. blocker-exactly b _ refl;
}

-- ---- and every call leaves such c
follower-kept : (f g : Follower) → f.attack ≡ g.attack → f.release ≡ g.release → FollowerMade f → FollowerMade g
follower-kept f g a r m = record { attack = m.attack; release = m.release; made = m.made; its_attack = m.its_attack ∙ a; its_release = m.its_release ∙ r }

blocker-kept : (b d : Blocker) → b.c ≡ d.c → BlockerMade b → BlockerMade d
blocker-kept b d e m = record { c = m.c; made = m.made; its_c = m.its_c ∙ e }

pub accepted : Accepted
unfolding follower.step follower.reset blocker.step blocker.blocked blocker.reset
accepted = record {
  follower_make = λ attack release e. record { attack = attack; release = release; made = e; its_attack = refl; its_release = refl };
  follower_step = λ f x m. by (λ (t : Told Follower). FollowerMade t.state) (follower.acceptable f.attack f.release) m λ _. follower-kept f _ refl refl m;
  follower_reset = λ f m. by (λ (t : Told Follower). FollowerMade t.state) (follower.acceptable f.attack f.release) m λ _. follower-kept f _ refl refl m;
  blocker_make = λ c e. record { c = c; made = e; its_c = refl };
  blocker_step = λ b x m. by (λ (t : Told Blocker). BlockerMade t.state) (is_smoothing b.c) m λ _. blocker-kept b _ refl m;
  blocker_reset = λ b m. by (λ (t : Told Blocker). BlockerMade t.state) (is_smoothing b.c) m λ _. blocker-kept b _ refl m;
}

pub answers : Answers
answers = record {
  follower_answer = λ f g. answer_back;
  follower_output = λ f g. reading-back;
  blocker_answer = λ b c. answer_back;
  blocker_output = λ b c. reading-back;
}
