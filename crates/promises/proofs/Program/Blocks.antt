-- The program's input may come in blocks: the whole samples that each gives, one block after the other, are the program's bytes, and the counts those of the whole, so long as each block but the last is of an even number of bytes; and none is refused.
-- Assumes nothing.
use mathlib.Core.Path.{◌≡◌, refl, ap, sym, subst}
use mathlib.Core.List.{List, [], ◌∷◌}
use Prim.Native.Nat.{ℕ, ◌+◌, ◌*◌, ◌/◌}
use native.Mathlib.Omega.{arith}
use lib.ListN.{length, take, length-append}
use lib.Seq.{take_at}
use lib.Ieee.{neg, lt, le, eq, whole, fits}
use Rattle.answer.specs.Figures.{f32}
use Rattle.answer.specs.Checks.{is_rate, is_smoothing}
use Rattle.answer.specs.Told.{Told}
use Rattle.fold.specs.Fold.{state_after}
use Rattle.noise_gate.specs.declared.Gate.{Gate}
use Rattle.noise_gate_settings.specs.Ranges.{in_its_range, worked, allowed, with_setting, settable}
use Rattle.noise_gate.specs.Bounds.{in_bounds, acceptable}
use Rattle.noise_gate.specs.Calls.{gate_of, at_rest, made_settings, make, set_typed}
use Rattle.silence.proofs.Accepted.{Settable, Bounded, rest-bounded}
use Rattle.pcm_gate.specs.Pass as Pass
use Rattle.pcm_gate.specs.Pass.{outputs, open_count, pass}
use Rattle.pcm_gate.specs.Program.{program_gate, program}
use Rattle.pcm_gate.specs.Turns.{Run, begun, wrapped, counted, told_of, turned, given, joined, after, given_all, Even, Full}
use Rattle.promises.specs.Program.{InBlocks}
use Rattle.promises.proofs.Program.Parts.{outputs-parts, outputs-length, counts-parts}
use Rattle.promises.proofs.Program.Cut.{after-bounded, passes}

-- ---- one block, on a gate that 9 accepts: none is refused
module _ (t : Run) (a : Settable t.gate.settings) (d : Bounded t.gate.registers) (b : List ℕ) where
  -- the run after it
  abbrev on : Run
  on = record {
    gate = gate_of t.gate.settings (Pass.after t.gate.settings t.gate.registers b);
    samples = wrapped (t.samples + length b / 2);
    aimed = wrapped (t.aimed + open_count t.gate.settings t.gate.registers b);
  }

  turned-is : turned t b ≡ on
  unfolding turned
  turned-is = ap (λ (p : Told Gate × List ℕ). counted t p.0 (length b)) (passes t.gate a d b b refl)

  given_is : given t b ≡ outputs t.gate.settings t.gate.registers b
  given_is = rw (passes t.gate a d b b refl) (take_at (outputs t.gate.settings t.gate.registers b) _ (length b / 2 * 2) (outputs-length t.gate.settings t.gate.registers b))

  is-done : (told_of t b).number ≡ 0
  is-done = ap (λ (p : Told Gate × List ℕ). p.0.number) (passes t.gate a d b b refl)

-- ---- blocks, one after the other
module _ (last : List ℕ) where
  all-given : (t : Run) → Settable t.gate.settings → Bounded t.gate.registers → (blocks : List (List ℕ)) → Even blocks → given_all t blocks last ≡ outputs t.gate.settings t.gate.registers (joined blocks last)
  all-given t a d [] e = given_is t a d last
  all-given t a d (b ∷ blocks) e =
      let s = t.gate.settings in
      let m = t.gate.registers in
      rw (given_is t a d b, turned-is t a d b, all-given (on t a d b) a (after-bounded s a m b d) blocks e.1) (sym (outputs-parts s m b (joined blocks last) e.0))

  all-samples : (t : Run) (blocks : List (List ℕ)) → Even blocks → (turned (after t blocks) last).samples ≡ wrapped (t.samples + length (joined blocks last) / 2)
  unfolding state_after turned
  all-samples t [] e = refl
  all-samples t (b ∷ blocks) e = omega (arith, all-samples (turned t b) blocks e.1, e.0, length-append b (joined blocks last))

  all-aimed : (t : Run) → Settable t.gate.settings → Bounded t.gate.registers → (blocks : List (List ℕ)) → Even blocks → (turned (after t blocks) last).aimed ≡ wrapped (t.aimed + open_count t.gate.settings t.gate.registers (joined blocks last))
  unfolding state_after
  all-aimed t a d [] e = ap (λ (r : Run). r.aimed) (turned-is t a d last)
  all-aimed t a d (b ∷ blocks) e =
      let s = t.gate.settings in
      let m = t.gate.registers in
      rw (turned-is t a d b, all-aimed (on t a d b) a (after-bounded s a m b d) blocks e.1, counts-parts s m b (joined blocks last) e.0) (omega arith)

  all_done : (t : Run) → Settable t.gate.settings → Bounded t.gate.registers → (blocks : List (List ℕ)) → (told_of (after t blocks) last).number ≡ 0
  unfolding state_after
  all_done t a d [] = is-done t a d last
  all_done t a d (b ∷ blocks) = rw (turned-is t a d b) (all_done (on t a d b) a (after-bounded t.gate.settings a t.gate.registers b d) blocks)

  -- a buffer's bytes before the call are in none of the whole samples
  abbrev Whole : List ℕ → Run → Type 0
  Whole out t = take (length last / 2 * 2) (pass t.gate last out).1 ≡ given t last

  all_whole : (t : Run) → Settable t.gate.settings → Bounded t.gate.registers → (blocks : List (List ℕ)) (out : List ℕ) → length last ≡ length out → Whole out (after t blocks)
  unfolding state_after
  all_whole t a d [] out same =
      let s = t.gate.settings in
      let m = t.gate.registers in
      rw (passes t.gate a d last out same, given_is t a d last) (take_at (outputs s m last) _ (length last / 2 * 2) (outputs-length s m last))
  all_whole t a d (b ∷ blocks) out same = subst (λ (u : Run). Whole out (after u blocks)) (sym (turned-is t a d b)) (all_whole (on t a d b) a (after-bounded t.gate.settings a t.gate.registers b d) blocks out same)

full-even : (blocks : List (List ℕ)) → Full blocks → Even blocks
full-even [] f = tt
full-even (b ∷ blocks) f = (omega (arith, f.0), full-even blocks f.1)

-- ---- the program's gate
program-settable : Settable program_gate.settings
unfolding program_gate make made_settings set_typed acceptable in_bounds settable allowed worked in_its_range with_setting is_rate is_smoothing whole f32 neg lt le eq fits
program-settable = record { rate = (tt, tt); threshold = (tt, tt); ratio = (tt, tt); attack = (tt, tt); release = (tt, tt); hold = (tt, tt); rising = (tt, tt); falling = (tt, tt) }

program-at-rest : program_gate.registers ≡ at_rest
unfolding program_gate make made_settings set_typed acceptable in_bounds settable allowed worked in_its_range with_setting is_rate is_smoothing whole f32 neg lt le eq
program-at-rest = refl

program-bounded : Bounded program_gate.registers
program-bounded = rw program-at-rest rest-bounded

pub program-in-blocks : InBlocks
unfolding program
program-in-blocks = record {
  bytes = λ blocks last e. all-given last begun program-settable program-bounded blocks e;
  samples = λ blocks last e. omega (arith, all-samples last begun blocks e);
  aimed = λ blocks last e. omega (arith, all-aimed last begun program-settable program-bounded blocks e);
  done = λ blocks last. all_done last begun program-settable program-bounded blocks;
  whole = λ blocks last out same. all_whole last begun program-settable program-bounded blocks out same;
  even = full-even;
}
