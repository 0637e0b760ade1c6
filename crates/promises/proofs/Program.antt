-- The gate over 16-bit samples and the program over it keep what the page `Program` promises.
-- Assumes nothing.
mod Parts
mod Cut
mod Blocks
mod Return
use mathlib.Core.Path.{refl}
use mathlib.Core.List.{List}
use Prim.Native.Nat.{ℕ}
use lib.Dec.{T, eqb}
use lib.ListN.{length}
use lib.Ieee.Fits.{and_l, and_r}
use Rattle.answer.specs.Told.{Told}
use Rattle.answer.specs.Blocks.{BlockUnchanged}
use Rattle.noise_gate_settings.specs.Ranges.{settable}
use Rattle.noise_gate.specs.Bounds.{in_bounds, acceptable}
use Rattle.noise_gate.specs.Calls.{gate_of}
use Rattle.noise_gate.specs.declared.Gate.{Gate}
use Rattle.silence.proofs.Accepted.{Settable, Bounded, is-settable, is-bounded, accepts}
use Rattle.silence.proofs.Along.{by}
use Rattle.pcm.proofs.Return.{word-itself, unwrapped}
use Rattle.pcm_gate.specs.Pass.{after, pass}
use Rattle.promises.specs.Program.{Refusals, Sound, EvenCut, InBlocks, AsItWas}
use Rattle.promises.proofs.Program.Cut.{after-bounded, passes, cut}
use Rattle.promises.proofs.Program.Blocks.{program-in-blocks}
use Rattle.promises.proofs.Program.Return.{same_bytes}

pub refusals : Refusals
unfolding pass
refusals = record {
  passing = λ g input out.
      let P : Told Gate × List ℕ → Type 0 = BlockUnchanged g out in
      by P (acceptable g) (record { state = λ _. refl; buffer = λ _. refl }) λ _.
      by P (eqb (length input) (length out)) (record { state = λ _. refl; buffer = λ _. refl }) λ _.
      record { state = λ n. absurd (n refl); buffer = λ n. absurd (n refl) };
}

-- ---- a sound gate
module _ (g : Gate) (sound : Sound g) where
  settable-then : Settable g.settings
  unfolding acceptable
  settable-then = is-settable g.settings (and_l (settable g.settings) (in_bounds g.registers) sound.0) sound.1

  bounded-then : Bounded g.registers
  unfolding acceptable
  bounded-then = is-bounded g.registers (and_r (settable g.settings) (in_bounds g.registers) sound.0) sound.2

  still-accepted : (input out : List ℕ) → T (acceptable (pass g input out).0.state)
  unfolding pass
  still-accepted input out =
      let P : Told Gate × List ℕ → Type 0 = λ t. T (acceptable t.0.state) in
      by P (acceptable g) sound.0 λ _.
      by P (eqb (length input) (length out)) sound.0 λ _.
      accepts (gate_of g.settings (after g.settings g.registers input)) settable-then (after-bounded g.settings settable-then g.registers input bounded-then)

pub cuts : EvenCut
cuts = record {
  in_two = λ g sound xs ys ox oy even same same₂. cut g (settable-then g sound) (bounded-then g sound) xs ys ox oy even same same₂;
  accepted = still-accepted;
}

pub in_blocks : InBlocks
in_blocks = program-in-blocks

pub as_it_was : AsItWas
as_it_was = record {
  sample = word-itself;
  unwrapped = unwrapped;
  recording = λ g sound ratio input out small same.
      let a = settable-then g sound in
      let b = bounded-then g sound in
      rw (passes g a b input out same, same_bytes g.settings a ratio g.registers b input small);
}
