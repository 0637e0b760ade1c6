-- The count that a call reports is the number of its samples aimed open, and what a done block writes are their outputs.
-- Assumes nothing.
use Rattle.std.specs.Prelude.{Option, Some, None}
use mathlib.Core.Path.{◌≡◌, refl, ◌∙◌}
use mathlib.Core.Bool.{Bool, true, false, cond}
use mathlib.Core.List.{List, [], ◌∷◌}
use Prim.Native.Nat.{ℕ, suc, ◌+◌}
use native.Mathlib.Omega.{arith}
use lib.Ieee.{Float}
use Rattle.fold.specs.Fold.{more, out_after, count_after}
use Rattle.answer.specs.Told.{Told, where_done}
use Rattle.answer.proofs.Refusals.{not_done}
use Rattle.answer.proofs.Told.{block-by}
use Rattle.noise_gate_sample.specs.Step.{aim, next}
use Rattle.noise_gate_settings.specs.Ranges.{in_its_range, worked}
use Rattle.noise_gate.specs.Bounds.{acceptable}
use Rattle.noise_gate_settings.specs.Names.{named}
use Rattle.noise_gate.specs.Calls.{set_typed, set_found, set, reset, outputs, open_count, block}
use Rattle.silence.specs.History.{Call, Block, SetTyped, Set, Reset, answered, Sample, sample, heard}
use Rattle.silence.specs.Demand3.{samples_after, aimed_open, outputs_of}
use Rattle.noise_gate_settings.specs.declared.Settings.{Settings}
use Rattle.noise_gate_sample.specs.declared.Registers.{Registers}
use Rattle.noise_gate.specs.declared.Gate.{Gate}
use Rattle.noise_gate_settings.specs.declared.Setting.{Setting}
use Rattle.silence.proofs.Along.{by}

one_of : (b : Bool) (n k : ℕ) → more b n + k ≡ n + cond b (suc k) k
one_of true n k = omega arith
one_of false n k = omega arith

count-is : (s : Settings) (m : Registers) (xs : List Float) (h : List Sample) → open_count s m xs + aimed_open h ≡ aimed_open (heard s m xs h)
unfolding count_after heard sample aimed_open
count-is s m [] h = omega arith
count-is s m (x ∷ xs) h = one_of (aim s m x) (open_count s (next s m x) xs) (aimed_open h) ∙ count-is s (next s m x) xs (sample s m x ∷ h)

outputs-are : (s : Settings) (m : Registers) (xs : List Float) (h : List Sample) → outputs_of h (outputs s m xs) ≡ outputs_of (heard s m xs h) []
unfolding out_after heard sample
outputs-are s m [] h = refl
outputs-are s m (x ∷ xs) h = outputs-are s (next s m x) xs (sample s m x ∷ h)

module _ (g : Gate) where
  abbrev Counts : List Sample → Told Gate → Type 0
  Counts new t = t.count ≡ aimed_open (where_done t new [])

  abbrev CountsNone : Told Gate → Type 0
  CountsNone t = t.count ≡ 0

  block-counts : (xs out : List Float) → Counts (heard g.settings g.registers xs []) (block g xs out).0
  unfolding block aimed_open
  block-counts xs out =
      block-by g xs out (λ t. Counts (heard g.settings g.registers xs []) t.0) (acceptable g)
      (λ r. rw (not_done r))
      (λ _ _. omega (arith, count-is g.settings g.registers xs []))

  set-counts : (t : Setting) → CountsNone (set_typed g t)
  unfolding set_typed
  set-counts t = by CountsNone (acceptable g) refl λ _. by CountsNone (in_its_range t) refl λ _. by CountsNone (worked t) refl λ _. refl

  found-counts : (n : Option Setting) → CountsNone (set_found g n)
  unfolding set_found
  found-counts (Some t) = set-counts t
  found-counts None = refl

  pub counts : (c : Call) → (answered g c).count ≡ aimed_open (samples_after g c [])
  unfolding answered samples_after set reset aimed_open
  counts (Block xs out) = block-counts xs out
  counts (SetTyped t) = set-counts t
  counts (Set name v w) = by CountsNone (acceptable g) refl λ _. found-counts (named name v w)
  counts Reset = by (Counts []) (acceptable g) refl λ _. refl

  pub writes : (xs out : List Float) → (block g xs out).1 ≡ where_done (block g xs out).0 (outputs_of (samples_after g (Block xs out) []) []) out
  unfolding answered samples_after block
  writes xs out =
      let P : Told Gate × List Float → Type 0 = λ t. t.1 ≡ where_done t.0 (outputs_of (where_done t.0 (heard g.settings g.registers xs []) []) []) out in
      block-by g xs out P (acceptable g) (λ r. rw (not_done r)) (λ _ _. outputs-are g.settings g.registers xs [])
