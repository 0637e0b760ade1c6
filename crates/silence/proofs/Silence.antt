-- Demand 3, proved of every made gate and any calls.
-- Assumes nothing.
use mathlib.Core.Path.{◌≡◌, refl, sym, ap, subst}
use mathlib.Core.Bool.{cond, ◌||◌}
use mathlib.Core.List.{List, [], ◌∷◌}
use Prim.Native.Nat.{ℕ, ◌-◌}
use lib.Dec.{T, ltb}
use lib.Ieee.{Float, le, lt, whole}
use Rattle.answer.specs.Figures.{f32}
use Rattle.answer.specs.Checks.{is_rate, is_smoothing}
use Rattle.noise_gate_sample.specs.Step.{hold_samples, loud, counter, aim, next}
use Rattle.noise_gate.specs.Calls.{at_rest, make}
use Rattle.silence.specs.History.{carried, Sample, sample}
use Rattle.silence.specs.Demand3.{Each, left_at, Promised, Demand3, SomeMade}
use Rattle.noise_gate_settings.specs.declared.Settings.{Settings}
use Rattle.noise_gate_sample.specs.declared.Registers.{Registers}
use Rattle.silence.proofs.OneSample.{state-moves, gain-in, quieter}
use Rattle.silence.proofs.Counter.{left, aims, held-aims, aims-held}
use Rattle.silence.proofs.Along.{Kept, along}
use Rattle.silence.proofs.Count.{counts, writes}

-- what the registers say of the history, and what is promised of each of its samples
record Follows (m : Registers) (h : List Sample) : Type 0 where
  counted : m.counter ≡ left h
  joined : m.state ≡ left_at h
  each : Each Promised h

at_first : Follows at_rest []
unfolding left
at_first = record { counted = refl; joined = refl; each = tt }

aim-is : (s : Settings) (m : Registers) (x : Float) (h : List Sample) → m.counter ≡ left h → aim s m x ≡ aims (sample s m x) h
unfolding aim counter loud sample aims left
aim-is s m x h e = ap (λ (n : ℕ). loud s m x || ltb 0 (cond (loud s m x) (hold_samples s) (n - 1))) e

counter-is : (s : Settings) (m : Registers) (x : Float) (h : List Sample) → m.counter ≡ left h → (next s m x).counter ≡ left (sample s m x ∷ h)
unfolding next counter loud sample left
counter-is s m x h e = ap (λ (n : ℕ). cond (loud s m x) (hold_samples s) (n - 1)) e

kept : Kept Follows
unfolding sample f32
kept s m h x a b fx lx k =
    let v = state-moves s m x a b fx lx in
    let e = aim-is s m x h k.counted in
    let p : Promised (sample s m x) h =
    record {
      aims = (λ (t : T (aim s m x)). aims-held (sample s m x) h (subst T e t), λ p. subst T (sym e) (held-aims (sample s m x) h p));
      was = k.joined;
      falls = v.falls;
      never_rises = v.rests;
      never_falls = v.opens;
      from_0 = v.inside.above;
      to_1 = v.inside.below;
      gain_to_1 = (gain-in s m x a b fx lx).below;
      quieter = quieter s m x a b fx lx;
    } in
    record { counted = counter-is s m x h k.counted; joined = unfold next in refl; each = (p, k.each) }

pub silence : Demand3
silence rate rising falling f d cs fs =
    let g = carried (make rate rising falling).state cs in
    let k = along Follows at_first kept rate rising falling f d cs fs in
    record { each = k.inv.each; state = k.inv.joined; count = counts g; written = writes g }

pub some-made : SomeMade
unfolding make is_rate is_smoothing whole le lt f32
some-made = refl
