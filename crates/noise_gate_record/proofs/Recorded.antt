-- The laws of specs/Recorded.antt: demand 3 read off the bytes of a block.
-- Assumes nothing.
use mathlib.Core.Path.{◌≡◌, refl, sym, ap, ◌∙◌}
use mathlib.Core.Logic.{◌↔◌}
use mathlib.Core.Bool.{Bool, true, false, cond}
use mathlib.Core.List.{List, [], ◌∷◌, ◌++◌, append_assoc}
use Prim.Native.Nat.{ℕ, zero, suc, ◌+◌, ◌<◌}
use native.Mathlib.Nat.{le_of_suc-le-suc, not-suc-le-zero}
use native.Mathlib.Omega.{arith}
use lib.Dec.{T, eqb, eqb→eq}
use lib.ListN.{length, get_or, length-append}
use lib.Ieee.{Float}
use borrow.Author.Tests.{eq-eqb, ne_eqb}
use Rattle.answer.specs.Blocks.{BlockUnchanged, checked_block}
use Rattle.answer.specs.Told.{Told, refused, where_done}
use Rattle.answer.specs.declared.Refusal.{Refusal}
use Rattle.answer.specs.declared.Refusal.TheVariants.{LengthsDiffer, BadState}
use Rattle.answer.proofs.Refusals.{never_nought, not_done}
use Rattle.answer.proofs.Told.{block-by}
use Rattle.fold.specs.Fold.{more, out_after, count_after}
use Rattle.fold.proofs.Parts.{out-length}
use Rattle.noise_gate_sample.specs.Step.{aim, next}
use Rattle.noise_gate_sample.specs.declared.Registers.{Registers}
use Rattle.noise_gate_settings.specs.declared.Settings.{Settings}
use Rattle.noise_gate.specs.Bounds.{acceptable}
use Rattle.noise_gate.specs.Calls.{byte_of, byte_at, make, block, ran, aimed, open_count, block_recorded}
use Rattle.noise_gate.specs.declared.Gate.{Gate}
use Rattle.silence.specs.History.{Call, Block, answered, carried, Sample, sample, heard, all_f32, floats_of, InF32}
use Rattle.silence.specs.Demand3.{samples_after, history, Promised, Each}
use Rattle.silence.proofs.Along.{by}
use Rattle.silence.proofs.Silence.{silence}
use Rattle.noise_gate_record.specs.Recorded.{AsBlock, Leaves, At, sum, Recorded}

-- ---- one call more: the history after it, and that its floats are f32
history-and : (g : Gate) (cs : List Call) (c : Call) (past : List Sample) → history g (cs ++ (c ∷ [])) past ≡ samples_after (carried g cs) c (history g cs past)
unfolding history carried
history-and g [] c past = refl
history-and g (d ∷ cs) c past = history-and (answered g d).state cs c (samples_after g d past)

f32-and : (cs : List Call) (c : Call) → InF32 cs → T (all_f32 (floats_of c)) → InF32 (cs ++ (c ∷ []))
f32-and [] c fs f = (f, tt)
f32-and (d ∷ cs) c fs f = (fs.0, f32-and cs c fs.1 f)

-- ---- the samples of a block lie on top of those before it, and what is promised of each sample is of these too
record OnTop (h past : List Sample) (n : ℕ) : Type 0 where
  later : List Sample
  is : h ≡ later ++ past
  long : length later ≡ n

on-top : (s : Settings) (m : Registers) (xs : List Float) (past : List Sample) → OnTop (heard s m xs past) past (length xs)
unfolding heard
on-top s m [] past = record { later = []; is = refl; long = refl }
on-top s m (x ∷ xs) past =
    let t = on-top s (next s m x) xs (sample s m x ∷ past) in
    let last = sample s m x ∷ [] in
    record { later = t.later ++ last; is = t.is ∙ sym (append_assoc t.later last past); long = omega (arith, length-append t.later last, t.long) }

each_of : (later past : List Sample) → Each Promised (later ++ past) → Each Promised past
each_of [] past e = e
each_of (x ∷ later) past e = each_of later past e.1

-- ---- a byte and its aim
opens_as : (b : Bool) {H : Type 0} → (T b ↔ H) → (byte_of b ≡ 1) ↔ H
opens_as true i = (λ _. i.0 tt, λ _. refl)
opens_as false i = (λ e. absurd (omega (arith, e)), λ h. absurd (i.1 h))

closes_as : (b : Bool) {H : Type 0} → (T b ↔ H) → (byte_of b ≡ 0) ↔ (H → ⊥)
closes_as true i = (λ e. absurd (omega (arith, e)), λ n. absurd (n (i.0 tt)))
closes_as false i = (λ _ h. i.1 h, λ _. refl)

says_at : (s : Settings) (m : Registers) (xs : List Float) (past : List Sample) → Each Promised (heard s m xs past)
    → (k : ℕ) → k < length xs → At (heard s m xs past) (length xs) k (get_or (out_after (next s) (byte_at s) m xs) k 2)
unfolding heard out_after sample
says_at s m [] past e k h = absurd (not-suc-le-zero h)
says_at s m (x ∷ xs) past e zero h =
    let t = on-top s (next s m x) xs (sample s m x ∷ past) in
    let promised = (each_of t.later (sample s m x ∷ past) (rw t.is at e)).0 in
    record {
      later = t.later;
      it = sample s m x;
      earlier = past;
      is = t.is;
      place = omega (arith, t.long);
      aim = refl;
      opens = opens_as (aim s m x) promised.aims;
      closes = closes_as (aim s m x) promised.aims;
    }
says_at s m (x ∷ xs) past e (suc k) h =
    let a = says_at s (next s m x) xs (sample s m x ∷ past) e k (le_of_suc-le-suc h) in
    record { later = a.later; it = a.it; earlier = a.earlier; is = a.is; place = omega (arith, a.place); aim = a.aim; opens = a.opens; closes = a.closes }

sums : (s : Settings) (m : Registers) (xs : List Float) → sum (out_after (next s) (byte_at s) m xs) ≡ open_count s m xs
unfolding out_after count_after
sums s m [] = refl
sums s m (x ∷ xs) = one_more (aim s m x) (sums s (next s m x) xs)
  where
    one_more : (b : Bool) {n k : ℕ} → n ≡ k → byte_of b + n ≡ more b k
    one_more true e = omega (arith, e)
    one_more false e = omega (arith, e)

-- ---- what holds of every refusal, and of a block that is done, holds of a call
module _ (g : Gate) (xs out : List Float) (aims : List ℕ) where
  recorded-by : (P : Told Gate × List Float × List ℕ → Type 0) → ((r : Refusal) → P (refused g r, out, aims))
      → (length xs ≡ length aims → (let t = ran g.settings g.registers xs in P (t.0, t.1, aimed g.settings g.registers xs))) → P (block_recorded g xs out aims)
  unfolding block_recorded block
  recorded-by P refusals passes =
      by P (acceptable g) (refusals BadState) λ _.
      by P (eqb (length xs) (length aims)) (refusals LengthsDiffer) λ t.
      block-by g xs out (λ b. P (b.0, b.1, where_done b.0 (aimed g.settings g.registers xs) aims)) (acceptable g)
      (λ r. rw (not_done r) (refusals r))
      (λ _ _. passes (eqb→eq (length xs) (length aims) t))

  same : length xs ≡ length aims → let t = block_recorded g xs out aims in (t.0, t.1) ≡ block g xs out
  unfolding block_recorded block checked_block
  same e = go (acceptable g) refl
    where
      go : (a : Bool) → acceptable g ≡ a → let t = block_recorded g xs out aims in (t.0, t.1) ≡ block g xs out
      go true h = rw (h, eq-eqb (length xs) (length aims) e)
      go false h = rw h

  other : (length xs ≡ length aims → ⊥) → (block_recorded g xs out aims).0.number ≡ cond (acceptable g) 7 9
  unfolding block_recorded
  other n = go (acceptable g) refl
    where
      go : (a : Bool) → acceptable g ≡ a → (block_recorded g xs out aims).0.number ≡ cond (acceptable g) 7 9
      go true h = rw (h, ne_eqb (length xs) (length aims) n)
      go false h = rw h

  unchanged : let t = block_recorded g xs out aims in BlockUnchanged {B = List Float × List ℕ} g (out, aims) (t.0, (t.1, t.2))
  unchanged =
      recorded-by (λ t. BlockUnchanged {B = List Float × List ℕ} g (out, aims) (t.0, (t.1, t.2)))
      (λ r. record { state = λ n. refl; buffer = λ n. refl })
      (λ _. record { state = λ n. absurd (n refl); buffer = λ n. absurd (n refl) })

  -- the bytes of a block that is done
  bytes : let t = block_recorded g xs out aims in t.0.number ≡ 0 → t.2 ≡ out_after (next g.settings) (byte_at g.settings) g.registers xs
  bytes =
      recorded-by (λ t. t.0.number ≡ 0 → t.2 ≡ out_after (next g.settings) (byte_at g.settings) g.registers xs)
      (λ r z. absurd (never_nought r (sym z)))
      (λ _ _. refl)

  as_long : length (block_recorded g xs out aims).2 ≡ length aims
  as_long =
      recorded-by (λ t. length t.2 ≡ length aims) (λ r. refl)
      (λ e. out-length (next g.settings) (byte_at g.settings) g.registers xs ∙ e)

  count : let t = block_recorded g xs out aims in t.0.number ≡ 0 → sum t.2 ≡ t.0.count
  count =
      recorded-by (λ t. t.0.number ≡ 0 → sum t.2 ≡ t.0.count)
      (λ r z. absurd (never_nought r (sym z)))
      (λ _ _. sums g.settings g.registers xs)

  lengths : (block_recorded g xs out aims).0.number ≡ 0 → length xs ≡ length aims
  lengths = recorded-by (λ t. t.0.number ≡ 0 → length xs ≡ length aims) (λ r z. absurd (never_nought r (sym z))) (λ e _. e)

  heard_all : (block_recorded g xs out aims).0.number ≡ 0 → (past : List Sample) → samples_after g (Block xs out) past ≡ heard g.settings g.registers xs past
  unfolding samples_after answered
  heard_all z past =
      let done : (block g xs out).0.number ≡ 0 = ap (λ (b : Told Gate × List Float). b.0.number) (sym (same (lengths z))) ∙ z in
      rw done

pub as-block : AsBlock
as-block = record { same = same; other = other }

pub leaves : Leaves
leaves = record { unchanged = unchanged; as_long = as_long }

pub recorded : Recorded
recorded rate rising falling f d cs fs = record { each = each; count = λ xs out aims. count g xs out aims }
  where
    g₀ : Gate
    g₀ = (make rate rising falling).state

    g : Gate
    g = carried g₀ cs

    each : (xs out : List Float) (aims : List ℕ) → T (all_f32 xs) → let t = block_recorded g xs out aims in t.0.number ≡ 0
        → (k : ℕ) → k < length xs → At (samples_after g (Block xs out) (history g₀ cs [])) (length xs) k (get_or t.2 k 2)
    each xs out aims fx z k h =
        let c = Block xs out in
        let now = heard_all g xs out aims z (history g₀ cs []) in
        let promised = rw (history-and g₀ cs c [] ∙ now) at (silence rate rising falling f d (cs ++ (c ∷ [])) (f32-and cs c fs fx)).each in
        rw (now, bytes g xs out aims z) (says_at g.settings g.registers xs (history g₀ cs []) promised k h)
