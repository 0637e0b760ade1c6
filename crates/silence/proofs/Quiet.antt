-- W10's count, proved of every made gate and any calls, and of every state that is loaded.
-- Assumes nothing.
use Rattle.std.specs.Prelude.{Option, Some, None}
use mathlib.Core.Path.{◌≡◌, refl, sym, ap, ◌∙◌, subst}
use mathlib.Core.Logic.{inl, inr}
use mathlib.Core.Bool.{Bool, true, false, cond}
use mathlib.Core.List.{List, [], ◌∷◌}
use Prim.Native.Nat.{ℕ, suc, ◌≤◌, min}
use native.Mathlib.Omega.{arith}
use lib.Dec.{T}
use lib.ListN.{length}
use lib.Ieee.{Float, lt}
use lib.Ieee.Fits.{and_l, and_r}
use Rattle.answer.specs.Told.{Told, refused}
use Rattle.answer.specs.Blocks.{checked_block}
use Rattle.answer.specs.declared.Refusal.TheVariants.{BadState}
use Rattle.answer.proofs.Refusals.{not_done}
use Rattle.answer.proofs.Told.{block-by}
use Rattle.noise_gate_sample.specs.Figures.{longest_quiet}
use Rattle.noise_gate_sample.specs.Step.{loud, quiet, next}
use Rattle.noise_gate_settings.specs.Ranges.{in_its_range, worked, settable}
use Rattle.noise_gate_settings.specs.Names.{named}
use Rattle.noise_gate.specs.Figures.{longest_count}
use Rattle.noise_gate.specs.Bounds.{in_bounds, acceptable}
use Rattle.noise_gate.specs.Calls.{at_rest, make, load, set_typed, set_found, set, reset, block}
use Rattle.silence.specs.History.{Call, Block, SetTyped, Set, Reset, answered, carried, Sample, sample, all_f32, InF32, SettingsF32}
use Rattle.silence.specs.Demand3.{samples_after, history, Loud, NoneLoud, Held, Promised, Each}
use Rattle.silence.specs.Quiet.{Latest, QuietFor, OneFigure, carried_by, Near, AimsBy, Quiet, Loaded}
use Rattle.noise_gate_settings.specs.declared.Setting.{Setting}
use Rattle.noise_gate_sample.specs.declared.Registers.{Registers}
use Rattle.noise_gate.specs.declared.Gate.{Gate}
use Rattle.noise_gate.specs.declared.Before.{Before}
use Rattle.silence.proofs.Accepted.{hold-most, is-settable, is-bounded}
use Rattle.silence.proofs.Along.{by, Sound, Kept, along, calls-leave}
use Rattle.silence.proofs.Silence.{silence}

-- ---- one sample more
loud-at : (e : Sample) (h : List Sample) → Loud e → QuietFor (e ∷ h) 0
loud-at e h l = record { later = []; since = inl (record { it = e; earlier = h; is = refl; loud = l; latest = tt }); figure = refl }

one_later : (e : Sample) (h : List Sample) (n : ℕ) → ¬ Loud e → QuietFor h n → QuietFor (e ∷ h) (min (suc n) longest_quiet)
one_later e h n f q = record {
  later = e ∷ q.later;
  since = elim q.since [
    | inl l ↦ inl (record { it = l.it; earlier = l.earlier; is = ap (λ (k : List Sample). e ∷ k) l.is; loud = l.loud; latest = (f, l.latest) })
    | inr a ↦ inr (ap (λ (k : List Sample). e ∷ k) a.0, (f, a.1))
  ];
  figure = omega (arith, q.figure);
}

one_more : (e : Sample) (h : List Sample) (n : ℕ) → QuietFor h n → QuietFor (e ∷ h) (cond (lt e.factor e.level) 0 (min (suc n) longest_quiet))
one_more e h n q = go (lt e.factor e.level) refl
  where
    go : (b : Bool) → lt e.factor e.level ≡ b → QuietFor (e ∷ h) (cond b 0 (min (suc n) longest_quiet))
    go true p = loud-at e h (subst T (sym p) tt)
    go false p = one_later e h n (λ (t : Loud e). subst T p t) q

-- ---- what is kept: the count, and that no hold is above the counter's bound
abbrev HoldMost : Sample → List Sample → Type 0
HoldMost e past = e.hold ≤ longest_count

record Counts (m : Registers) (h : List Sample) : Type 0 where
  count : QuietFor h m.quiet
  holds : Each HoldMost h

-- where no sample has come, the count is 0
none_yet : (m : Registers) → m.quiet ≡ 0 → Counts m []
none_yet m e = record { count = record { later = []; since = inr (refl, tt); figure = e }; holds = tt }

kept : Kept Counts
unfolding next quiet loud sample
kept s m h x a b fx lx k = record { count = one_more (sample s m x) h m.quiet k.count; holds = (hold-most s a, k.holds) }

-- ---- the aim by the figure: the latest loud sample stands in one place only
heads : {a b : Sample} {h k l : List Sample} → h ≡ a ∷ k → h ≡ b ∷ l → a ≡ b
heads u v = cc

tails : {a b : Sample} {k l : List Sample} → a ∷ k ≡ b ∷ l → k ≡ l
tails u = cc

earlier-of : (x e : Sample) (h later : List Sample) (p : Latest (x ∷ h) (e ∷ later)) → Latest h later
earlier-of x e h later p = record { it = p.it; earlier = p.earlier; is = tails p.is; loud = p.loud; latest = p.latest.1 }

nowhere : (later : List Sample) → Latest [] later → ⊥
nowhere [] p = absurd (omega (arith, ap length p.is))
nowhere (e ∷ later) p = absurd (omega (arith, ap length p.is))

meets : (h la lb : List Sample) → Latest h la → Latest h lb → length la ≡ length lb
meets h [] [] p q = refl
meets h [] (e ∷ lb) p q = absurd (q.latest.0 (subst Loud (heads p.is q.is) p.loud))
meets h (e ∷ la) [] p q = absurd (p.latest.0 (subst Loud (heads q.is p.is) q.loud))
meets [] (e ∷ la) (d ∷ lb) p q = absurd (nowhere (e ∷ la) p)
meets (x ∷ h) (e ∷ la) (d ∷ lb) p q = omega (arith, meets h la lb (earlier-of x e h la p) (earlier-of x d h lb q))

-- where none is loud there is no latest
none-met : (h later : List Sample) → NoneLoud h → Latest h later → ⊥
none-met [] later f p = nowhere later p
none-met (x ∷ h) [] f p = f.0 (subst Loud (sym (heads refl p.is)) p.loud)
none-met (x ∷ h) (e ∷ later) f p = none-met h later f.1 (earlier-of x e h later p)

hold-of : (h later : List Sample) (p : Latest h later) → Each HoldMost h → p.it.hold ≤ longest_count
unfolding earlier-of
hold-of [] later p a = absurd (nowhere later p)
hold-of (x ∷ h) [] p a = subst (λ (e : Sample). e.hold ≤ longest_count) (heads refl p.is) a.0
hold-of (x ∷ h) (e ∷ later) p a = hold-of h later (earlier-of x e h later p) a.1

figure-is : (h later : List Sample) (n : ℕ) → Latest h later → QuietFor h n → n ≡ min (length later) longest_quiet
figure-is h later n p q = elim q.since [
  | inl l ↦ q.figure ∙ ap (λ (k : ℕ). min k longest_quiet) (meets h q.later later l p)
  | inr a ↦ absurd (none-met h later a.1 p)
]

pub one-figure : OneFigure
one-figure h m n p q = elim p.since [
  | inl l ↦ p.figure ∙ sym (figure-is h p.later n l q)
  | inr a ↦ elim q.since [
    | inl l ↦ absurd (none-met h q.later a.1 l)
    | inr b ↦ p.figure ∙ ap (λ (k : List Sample). min (length k) longest_quiet) (sym a.0 ∙ b.0) ∙ sym q.figure
  ]
]

near_by : (e : Sample) (past : List Sample) (n : ℕ) → QuietFor (e ∷ past) n → Held e past → Near e past n
near_by e past n q k =
    let p : Latest (e ∷ past) k.later = record { it = k.it; earlier = k.earlier; is = k.is; loud = k.loud; latest = k.latest } in
    let f = figure-is (e ∷ past) k.later n p q in
    record { later = k.later; one = p; near = elim k.near [ inl z ↦ inl (omega (arith, f, z)) | inr z ↦ inr (omega (arith, f, z)) ] }

held_by : (e : Sample) (past : List Sample) (n : ℕ) → Each HoldMost (e ∷ past) → QuietFor (e ∷ past) n → Near e past n → Held e past
held_by e past n a q r =
    let p = r.one in
    let f = figure-is (e ∷ past) r.later n p q in
    let m = hold-of (e ∷ past) r.later p a in
    record {
      later = r.later;
      it = p.it;
      earlier = p.earlier;
      is = p.is;
      loud = p.loud;
      latest = p.latest;
      near = elim r.near [ inl z ↦ inl (omega (arith, f, z)) | inr z ↦ inr (omega (arith, f, z, m)) ];
    }

aims-by : (h : List Sample) → Each Promised h → Each HoldMost h → Each AimsBy h
aims-by [] p a = tt
aims-by (e ∷ past) p a =
    (λ n q. (λ (t : T e.aim). near_by e past n q (p.0.aims.0 t), λ (r : Near e past n). p.0.aims.1 (held_by e past n a q r)), aims-by past p.1 a.1)

-- ---- what an answer carries
module _ (g : Gate) where
  abbrev CarriesNone : Told Gate → Type 0
  CarriesNone t = t.quiet ≡ 0

  typed-carries : (t : Setting) → CarriesNone (set_typed g t)
  unfolding set_typed
  typed-carries t = by CarriesNone (acceptable g) refl λ _. by CarriesNone (in_its_range t) refl λ _. by CarriesNone (worked t) refl λ _. refl

  found-carries : (n : Option Setting) → CarriesNone (set_found g n)
  unfolding set_found
  found-carries (Some t) = typed-carries t
  found-carries None = refl

  carries : (c : Call) → (answered g c).quiet ≡ carried_by c (answered g c)
  unfolding answered set reset block
  carries (Block xs out) = block-by g xs out (λ t. t.0.quiet ≡ carried_by (Block xs out) t.0) (acceptable g) (λ r. rw (not_done r)) (λ _ _. refl)
  carries (SetTyped t) = typed-carries t
  carries (Set name v w) = by CarriesNone (acceptable g) refl λ _. found-carries (named name v w)
  carries Reset = by CarriesNone (acceptable g) refl λ _. refl

-- ---- of every made gate
pub quiet-counts : Quiet
quiet-counts rate rising falling f d cs fs =
    let g = (make rate rising falling).state in
    let k = along Counts (none_yet at_rest refl) kept rate rising falling f d cs fs in
    (record { count = k.inv.count; told = carries (carried g cs) }, aims-by (history g cs []) (silence rate rising falling f d cs fs).each k.inv.holds)

-- ---- of a state that is loaded: one that 9 refuses stays as it is, and no sample counts
refused_all : (g : Gate) → acceptable g ≡ false → (c : Call) → answered g c ≡ refused g BadState
unfolding answered set_typed set reset block checked_block
refused_all g e (Block xs out) = by (λ (t : Told Gate × List Float). t.0 ≡ refused g BadState) (acceptable g) refl λ a. absurd (subst T e a)
refused_all g e (SetTyped t) = by (λ (t : Told Gate). t ≡ refused g BadState) (acceptable g) refl λ a. absurd (subst T e a)
refused_all g e (Set name v w) = by (λ (t : Told Gate). t ≡ refused g BadState) (acceptable g) refl λ a. absurd (subst T e a)
refused_all g e Reset = by (λ (t : Told Gate). t ≡ refused g BadState) (acceptable g) refl λ a. absurd (subst T e a)

none-heard : (g : Gate) → acceptable g ≡ false → (c : Call) → samples_after g c [] ≡ []
unfolding samples_after
none-heard g e (Block xs out) = rw (refused_all g e (Block xs out))
none-heard g e (SetTyped t) = refl
none-heard g e (Set name v w) = refl
none-heard g e Reset = rw (refused_all g e Reset)

refused-ever : (g : Gate) → acceptable g ≡ false → g.registers.quiet ≡ 0 → (cs : List Call) → QuietFor (history g cs []) (carried g cs).registers.quiet
unfolding carried history
refused-ever g e z [] = (none_yet g.registers z).count
refused-ever g e z (c ∷ cs) =
    subst (λ (t : Told Gate). QuietFor (history t.state cs (samples_after g c [])) (carried t.state cs).registers.quiet) (sym (refused_all g e c))
    (rw (none-heard g e c) (refused-ever g e z cs))

module _ (b : Before) (f : SettingsF32 b.settings) (l : T (all_f32 (b.registers.level ∷ b.registers.state ∷ []))) (cs : List Call) (fs : InF32 cs) where
  accepted-counts : T (acceptable (load b)) → QuietFor (history (load b) cs []) (carried (load b) cs).registers.quiet
  unfolding load acceptable
  accepted-counts t =
      let g = load b in
      let s = settable g.settings in
      let m = in_bounds g.registers in
      let k : Sound Counts g.settings g.registers [] = record { settable = is-settable g.settings (and_l s m t) f; bounded = is-bounded g.registers (and_r s m t) l; inv = none_yet g.registers refl } in
      (calls-leave Counts (none_yet at_rest refl) kept g cs [] k fs).inv.count

  either-counts : (t : Bool) → acceptable (load b) ≡ t → QuietFor (history (load b) cs []) (carried (load b) cs).registers.quiet
  unfolding load
  either-counts true e = accepted-counts (subst T (sym e) tt)
  either-counts false e = refused-ever (load b) e refl cs

pub loaded-counts : Loaded
loaded-counts b f l cs fs = record { count = either-counts b f l cs fs (acceptable (load b)) refl; told = carries (carried (load b) cs) }
