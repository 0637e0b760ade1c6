-- No other register, output or count of a gate depends on its quiet count, and demand 3 holds of it whatever that is.
-- Assumes nothing.
use Rattle.std.specs.Prelude.{Option, Some, None, Result, Ok, Err, ⊤}
use mathlib.Core.Path.{◌≡◌, refl, sym, ap, ◌∙◌, subst}
use mathlib.Core.Bool.{Bool, true, false}
use mathlib.Core.List.{List, [], ◌∷◌}
use Prim.Native.Nat.{ℕ}
use lib.Dec.{eqb}
use lib.ListN.{length}
use lib.Ieee.{Float}
use Rattle.fold.specs.Fold.{more, state_after, out_after, count_after}
use Rattle.answer.specs.Checks.{check_block}
use Rattle.answer.specs.Told.{Told, unless, where_done}
use Rattle.answer.specs.Blocks.{passing, checked_block}
use Rattle.answer.specs.declared.Refusal.{Refusal}
use Rattle.noise_gate_sample.specs.Step.{level, loud, counter, aim, target, state, gain, output, quiet, next}
use Rattle.noise_gate_settings.specs.Ranges.{in_its_range, worked}
use Rattle.noise_gate_settings.specs.Names.{named}
use Rattle.noise_gate.specs.Bounds.{in_bounds, acceptable}
use Rattle.noise_gate.specs.Calls.{byte_at, after, outputs, aimed, open_count, ran, set_typed, set_found, set, reset, block, block_recorded}
use Rattle.silence.specs.History.{Call, Block, SetTyped, Set, Reset, answered, carried, Sample, sample, heard}
use Rattle.silence.specs.Demand3.{samples_after, history, left_at, aimed_open, outputs_of, Promised, Each}
use Rattle.silence.specs.Quiet.{with_quiet, but_quiet, Unheard, Stays}
use Rattle.noise_gate_settings.specs.declared.Settings.{Settings}
use Rattle.noise_gate_settings.specs.declared.Setting.{Setting}
use Rattle.noise_gate_sample.specs.declared.Registers.{Registers}
use Rattle.noise_gate.specs.declared.Gate.{Gate}

abbrev quietly : ℕ → Registers → Registers
quietly n m = record { level = m.level; state = m.state; counter = m.counter; quiet = n }

-- ---- a block's samples, from registers that have another count
module _ (s : Settings) where
  after_same : (m : Registers) (n : ℕ) (xs : List Float) → quietly 0 (after s m xs) ≡ quietly 0 (after s (quietly n m) xs)
  unfolding state_after next level loud counter aim target state quiet
  after_same m n [] = refl
  after_same m n (x ∷ xs) = after_same (next s m x) (quiet s (quietly n m) x) xs

  outputs-same : (m : Registers) (n : ℕ) (xs : List Float) → outputs s m xs ≡ outputs s (quietly n m) xs
  unfolding out_after next level loud counter aim target state gain output quiet
  outputs-same m n [] = refl
  outputs-same m n (x ∷ xs) = ap (λ (ys : List Float). output s m x ∷ ys) (outputs-same (next s m x) (quiet s (quietly n m) x) xs)

  aims_same : (m : Registers) (n : ℕ) (xs : List Float) → aimed s m xs ≡ aimed s (quietly n m) xs
  unfolding out_after next level loud counter aim target state quiet
  aims_same m n [] = refl
  aims_same m n (x ∷ xs) = ap (λ (ys : List ℕ). byte_at s m x ∷ ys) (aims_same (next s m x) (quiet s (quietly n m) x) xs)

  count_same : (m : Registers) (n : ℕ) (xs : List Float) → open_count s m xs ≡ open_count s (quietly n m) xs
  unfolding count_after next level loud counter aim target state quiet
  count_same m n [] = refl
  count_same m n (x ∷ xs) = ap (λ (k : ℕ). more (aim s m x) k) (count_same (next s m x) (quiet s (quietly n m) x) xs)

  heard-same : (m : Registers) (n : ℕ) (xs : List Float) (past : List Sample) → heard s m xs past ≡ heard s (quietly n m) xs past
  unfolding heard sample next level loud counter aim target state gain output quiet
  heard-same m n [] past = refl
  heard-same m n (x ∷ xs) past = heard-same (next s m x) (quiet s (quietly n m) x) xs (sample s m x ∷ past)

-- ---- a call: the same tests, one after the other, on both
by_both : {A : Type 0} (P : A → A → Type 0) (test : Bool) {r r' o o' : A} → P o o' → P r r' → P (unless test o r) (unless test o' r')
by_both P true p q = q
by_both P false p q = p

abbrev Same : Told Gate → Told Gate → Type 0
Same t u = but_quiet t ≡ but_quiet u

abbrev Recorded : Gate → Gate → List Float → List Float → List ℕ → Type 0
Recorded g h xs out aims = let t = block_recorded g xs out aims in let u = block_recorded h xs out aims in Same t.0 u.0 × (t.1 ≡ u.1) × (t.2 ≡ u.2)

-- what a block writes are the outputs of its samples, where it is done
abbrev Writes : Gate → List Float → List Float → Type 0
Writes h xs out = let t = block h xs out in t.1 ≡ where_done t.0 (outputs_of (samples_after h (Block xs out) []) []) out

module _ (g : Gate) (n : ℕ) where
  abbrev other : Gate
  other = with_quiet n g

  abbrev Both : Told Gate × List Float → Told Gate × List Float → Type 0
  Both t u = Same t.0 u.0 × (t.1 ≡ u.1)

  checks-same : (xs out : List Float) (c : Result ⊤ Refusal) → Both (passing g out (ran g.settings g.registers xs) c) (passing other out (ran g.settings (quietly n g.registers) xs) c)
  checks-same xs out (Ok _) =
      let s = g.settings in
      let m = g.registers in
      (rw (after_same s m n xs, count_same s m n xs), outputs-same s m n xs)
  checks-same xs out (Err r) = (refl, refl)

  block_same : (xs out : List Float) → Both (block g xs out) (block other xs out)
  unfolding block checked_block acceptable in_bounds
  block_same xs out = by_both Both (acceptable g) (refl, refl) (checks-same xs out (check_block xs (length out)))

  typed-same : (t : Setting) → Same (set_typed g t) (set_typed other t)
  unfolding set_typed acceptable in_bounds
  typed-same t = by_both Same (acceptable g) refl (by_both Same (in_its_range t) refl (by_both Same (worked t) refl refl))

  found-same : (k : Option Setting) → Same (set_found g k) (set_found other k)
  unfolding set_found
  found-same (Some t) = typed-same t
  found-same None = refl

  call_same : (c : Call) → Same (answered g c) (answered other c)
  unfolding answered set reset acceptable in_bounds
  call_same (Block xs out) = (block_same xs out).0
  call_same (SetTyped t) = typed-same t
  call_same (Set name v w) = by_both Same (acceptable g) refl (found-same (named name v w))
  call_same Reset = by_both Same (acceptable g) refl refl

  number_same : (c : Call) → (answered g c).number ≡ (answered other c).number
  number_same c = ap (λ (t : Told Gate). t.number) (call_same c)

  -- the gate that is left is the other one's but for the count
  left-same : (c : Call) → (answered other c).state ≡ with_quiet (answered other c).state.registers.quiet (answered g c).state
  left-same c = ap (λ (t : Told Gate). with_quiet (answered other c).state.registers.quiet t.state) (sym (call_same c))

  samples-same : (c : Call) (past : List Sample) → samples_after g c past ≡ samples_after other c past
  unfolding samples_after
  samples-same (Block xs out) past = rw (number_same (Block xs out), heard-same g.settings g.registers n xs past)
  samples-same (SetTyped t) past = refl
  samples-same (Set name v w) past = refl
  samples-same Reset past = rw (number_same Reset)

  recorded-same : (xs out : List Float) (aims : List ℕ) → Recorded g other xs out aims
  unfolding block_recorded acceptable in_bounds
  recorded-same xs out aims =
      let P : Told Gate × List Float × List ℕ → Told Gate × List Float × List ℕ → Type 0 = λ t u. Same t.0 u.0 × (t.1 ≡ u.1) × (t.2 ≡ u.2) in
      let b = block_same xs out in
      by_both P (acceptable g) (refl, refl, refl)
      (by_both P (eqb (length xs) (length aims)) (refl, refl, refl)
      (b.0, b.1, rw (ap (λ (t : Told Gate). t.number) b.0, aims_same g.settings g.registers n xs)))

  writes-same : (xs out : List Float) → Writes g xs out → Writes other xs out
  writes-same xs out w =
      let b = block_same xs out in
      sym b.1 ∙ w ∙ rw (ap (λ (t : Told Gate). t.number) b.0, samples-same (Block xs out) [])

-- ---- any calls
carried_same : (g : Gate) (n : ℕ) (cs : List Call) → carried (with_quiet n g) cs ≡ with_quiet (carried (with_quiet n g) cs).registers.quiet (carried g cs)
unfolding carried
carried_same g n [] = refl
carried_same g n (c ∷ cs) =
    let left = (answered g c).state in
    subst (λ (h : Gate). carried h cs ≡ with_quiet (carried h cs).registers.quiet (carried left cs)) (sym (left-same g n c)) (carried_same left (answered (with_quiet n g) c).state.registers.quiet cs)

history-same : (g : Gate) (n : ℕ) (cs : List Call) (past : List Sample) → history g cs past ≡ history (with_quiet n g) cs past
unfolding history
history-same g n [] past = refl
history-same g n (c ∷ cs) past =
    let left = (answered g c).state in
    subst (λ (h : Gate). history left cs (samples_after g c past) ≡ history h cs (samples_after (with_quiet n g) c past)) (sym (left-same g n c))
    (history-same left (answered (with_quiet n g) c).state.registers.quiet cs (samples_after g c past) ∙ ap (history _ cs) (samples-same g n c past))

pub unheard : Unheard
unheard g n cs =
    let k = (carried (with_quiet n g) cs).registers.quiet in
    let a = carried g cs in
    let e = carried_same g n cs in
    record {
      next = λ c. subst (λ (h : Gate). but_quiet (answered a c) ≡ but_quiet (answered h c)) (sym e) (call_same a k c);
      written = λ xs out. subst (λ (h : Gate). (block a xs out).1 ≡ (block h xs out).1) (sym e) (block_same a k xs out).1;
      recorded = λ xs out aims. subst (λ (h : Gate). Recorded a h xs out aims) (sym e) (recorded-same a k xs out aims);
      samples = history-same g n cs;
    }

pub stays : Stays
stays g n cs s =
    let k = (carried (with_quiet n g) cs).registers.quiet in
    let a = carried g cs in
    let e = carried_same g n cs in
    record {
      each = subst (Each Promised) (history-same g n cs []) s.each;
      state = ap (λ (h : Gate). h.registers.state) e ∙ s.state ∙ ap left_at (history-same g n cs []);
      count = subst (λ (h : Gate). (c : Call) → (answered h c).count ≡ aimed_open (samples_after h c [])) (sym e)
          (λ c. ap (λ (t : Told Gate). t.count) (sym (call_same a k c)) ∙ s.count c ∙ ap aimed_open (samples-same a k c []));
      written = subst (λ (h : Gate). (xs out : List Float) → Writes h xs out) (sym e) (λ xs out. writes-same a k xs out (s.written xs out));
    }
