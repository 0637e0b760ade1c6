-- Every stage's block keeps what the page `Signal` promises.
-- Assumes nothing.
mod Cut
use mathlib.Core.Path.{◌≡◌, refl, sym, ap, ◌∙◌}
use mathlib.Core.List.{List, [], ◌∷◌, ◌++◌}
use lib.Ieee.{Float}
use Rattle.fold.specs.Fold.{count_after}
use Rattle.fold.proofs.Parts.{count-parts}
use Rattle.noise_gate_sample.specs.Step as gate-step
use Rattle.noise_gate.specs.Bounds as gate-bounds
use Rattle.noise_gate.specs.Calls as gate
use Rattle.eq.specs.States as eq-states
use Rattle.eq.specs.Calls as eq
use Rattle.tonestack.specs.Calls as tonestack
use Rattle.multiband_saturator_settings.specs.Ranges as saturator-ranges
use Rattle.multiband_saturator.specs.Calls as saturator
use Rattle.leveller.specs.Bounds as leveller-bounds
use Rattle.leveller.specs.Calls as leveller
use Rattle.clipper.specs.Process.{process}
use Rattle.clipper.specs.Block as clipper
use Rattle.clipper.specs.declared.Kind.{Kind}
use Rattle.promises.specs.Signal.{Lent, joined, AnyCut, AllClipped, clipped, Signals}
use Rattle.promises.proofs.Clipper.Done.{done-is}
use Rattle.promises.proofs.Signal.Cut.{checked-cut, stage}

-- ---- the stages: each takes its state apart by its own two fields, and all but the gate count nothing
noise_gate : AnyCut gate.block
unfolding gate.block count_after
noise_gate =
    checked-cut
    (stage gate.gate_of (λ g. g.settings) (λ g. g.registers) (λ _ _. refl) (λ _ _. refl) (λ _. refl) gate-step.next gate-step.output
    (λ c. count_after (gate-step.next c) (gate-step.aim c)) (λ _ _. refl) (λ c. count-parts (gate-step.next c) (gate-step.aim c)))
    (λ g. g.registers.quiet)
    gate-bounds.acceptable

equaliser : AnyCut eq.block
unfolding eq.block
equaliser =
    checked-cut
    (stage eq.equaliser_of (λ e. e.settings) (λ e. e.registers) (λ _ _. refl) (λ _ _. refl) (λ _. refl) _ _ (λ _ _ _. 0) (λ _ _. refl) (λ _ _ _ _. refl))
    (λ _. 0)
    eq-states.acceptable

tone_stack : AnyCut tonestack.block
unfolding tonestack.block
tone_stack =
    checked-cut
    (stage tonestack.tone_of (λ t. t.settings) (λ t. t.registers) (λ _ _. refl) (λ _ _. refl) (λ _. refl) _ _ (λ _ _ _. 0) (λ _ _. refl) (λ _ _ _ _. refl))
    (λ _. 0)
    tonestack.acceptable

multiband : AnyCut saturator.block
unfolding saturator.block
multiband =
    checked-cut
    (stage saturator.saturator_of (λ s. s.settings) (λ s. s.registers) (λ _ _. refl) (λ _ _. refl) (λ _. refl) _ _ (λ _ _ _. 0) (λ _ _. refl) (λ _ _ _ _. refl))
    (λ _. 0)
    (λ s. saturator-ranges.settable s.settings)

levelling : AnyCut leveller.block
unfolding leveller.block
levelling =
    checked-cut
    (stage leveller.leveller_of (λ l. l.settings) (λ l. l.registers) (λ _ _. refl) (λ _ _. refl) (λ _. refl) _ _ (λ _ _ _. 0) (λ _ _. refl) (λ _ _ _ _. refl))
    (λ _. 0)
    leveller-bounds.acceptable

-- ---- the clipper takes each sample by itself
module _ (kind : Kind) (drive : Float) where
  processed-parts : (xs ys : List Float) → clipper.processed kind drive (xs ++ ys) ≡ clipper.processed kind drive xs ++ clipper.processed kind drive ys
  unfolding clipper.processed
  processed-parts [] ys = refl
  processed-parts (x ∷ xs) ys = ap (λ (l : List Float). process kind x drive ∷ l) (processed-parts xs ys)

  none-processed : clipper.processed kind drive [] ≡ []
  unfolding clipper.processed
  none-processed = refl

  clipped-is : (bs : List Lent) → AllClipped kind drive bs → clipped kind drive bs ≡ clipper.processed kind drive (joined bs)
  clipped-is [] d = sym none-processed
  clipped-is (b ∷ bs) d = rw (done-is kind drive b.input b.output d.0, clipped-is bs d.1) (sym (processed-parts b.input (joined bs)))

pub signals : Signals
signals = record {
  noise_gate = noise_gate;
  equaliser = equaliser;
  tone_stack = tone_stack;
  saturator = multiband;
  leveller = levelling;
  clipper = λ kind drive bs cs d e same. clipped-is kind drive bs d ∙ ap (clipper.processed kind drive) same ∙ sym (clipped-is kind drive cs e);
}
