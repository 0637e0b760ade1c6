-- The whole samples that a block which is done gives don't hang on what its buffer held before.
-- Assumes nothing.
use Rattle.std.proofs.Common.{◌≡◌, ℕ, ◌*◌, ◌/◌, Bool, true, false, List, [], ◌∷◌, length, take, drop, sym, refl, ap, ◌∙◌, arith, eq-eqb}
use Rattle.std.proofs.lemmas.List.{take-append-le}
use Rattle.answer.specs.Buffers.{over}
use Rattle.answer.specs.Told.{Told, unless}
use Rattle.fold.proofs.Parts.{out-length}
use Rattle.noise_gate.specs.Bounds.{acceptable}
use Rattle.noise_gate.specs.declared.Gate.{Gate}
use Rattle.noise_gate_sample.specs.declared.Registers.{Registers}
use Rattle.noise_gate_settings.specs.declared.Settings.{Settings}
use Rattle.pcm_gate.specs.Bytes.{words_of, bytes_of}
use Rattle.pcm_gate.specs.Pass.{next, output, outputs, pass}
use Rattle.pcm_gate.specs.Turns.{given}
use Rattle.pcm_gate.proofs.Pairs.{words-long}
use Rattle.gate.specs.Carried.{whole_samples}
use Rattle.gate.specs.Runs.{run_of}
use Rattle.gate.specs.declared.Turn.{Turn}

bytes-length : (us : List ℕ) → length (bytes_of us) ≡ length us * 2
unfolding bytes_of
bytes-length [] = refl
bytes-length (u ∷ us) = omega (arith, bytes-length us)

outputs-length : (s : Settings) (m : Registers) (xs : List ℕ) → length (outputs s m xs) ≡ length xs / 2 * 2
outputs-length s m xs = bytes-length _ ∙ rw (out-length (next s) (output s) m (words_of xs), words-long xs)

-- the first bytes of a buffer are those that are written at its start, whatever stands behind them
start_same : (n : ℕ) (written p q : List ℕ) → length written ≡ n → take n (over written p) ≡ take n (over written q)
start_same n written p q long = take-append-le n written (drop (length written) p) (omega arith) ∙ sym (take-append-le n written (drop (length written) q) (omega arith))

-- a call that is done is accepted
module _ (n : ℕ) (no ran : Told Gate) (written p q : List ℕ) (refused : no.number ≡ 0 → ⊥) (long : length written ≡ n) where
  either : (h : Bool) → (unless {A = Told Gate × List ℕ} h (no, p) (ran, over written p)).0.number ≡ 0
      → take n (unless {A = Told Gate × List ℕ} h (no, p) (ran, over written p)).1 ≡ take n (unless {A = Told Gate × List ℕ} h (no, q) (ran, over written q)).1
  either true e = start_same n written p q long
  either false e = absurd (refused e)

module _ (g : Gate) (b out : List ℕ) (same : length b ≡ length out) where
  whole_same : (pass g b out).0.number ≡ 0 → take (length b / 2 * 2) (pass g b out).1 ≡ take (length b / 2 * 2) (pass g b b).1
  unfolding pass
  whole_same =
      rw (eq-eqb (length b) (length out) same, eq-eqb (length b) (length b) refl)
      (either (length b / 2 * 2) _ _ (outputs g.settings g.registers b) out b (λ e. cc) (outputs-length g.settings g.registers b) (acceptable g))

pub whole_given : (t : Turn) (b out new : List ℕ) → length b ≡ length out → length new ≡ length out → new ≡ (pass t.gate b out).1 → (pass t.gate b out).0.number ≡ 0
    → whole_samples new ≡ given (run_of t) b
whole_given t b out new same long is done =
    let n : length new ≡ length b = omega arith in
    ap (λ (k : ℕ). take (k / 2 * 2) new) n ∙ ap (take (length b / 2 * 2)) is ∙ whole_same t.gate b out same done
