-- A gate that 9 accepts is one that it accepts after any bytes, so bytes cut at an even place give the same bytes, state and count as in one call.
-- Assumes nothing.
use mathlib.Core.Path.{◌≡◌, refl}
use mathlib.Core.Bool.{Bool, true, false}
use mathlib.Core.List.{List, [], ◌∷◌, ◌++◌}
use Prim.Native.Nat.{ℕ, ◌%◌}
use native.Mathlib.Omega.{arith}
use lib.Dec.{T}
use lib.ListN.{length, length-append}
use lib.Ieee.{le}
use borrow.Author.Tests.{eq-eqb}
use Rattle.rounding.specs.Casts.{absolute}
use Rattle.rounding.proofs.Smoothing.{sixty-four}
use Rattle.answer.specs.Buffers.{over}
use Rattle.fold.specs.Fold.{state_after}
use Rattle.pcm.specs.Samples.{sample_of, heard}
use Rattle.pcm.proofs.Reading.{heard-size, heard-fits}
use Rattle.noise_gate_settings.specs.declared.Settings.{Settings}
use Rattle.noise_gate_sample.specs.declared.Registers.{Registers}
use Rattle.noise_gate.specs.Bounds.{acceptable}
use Rattle.noise_gate.specs.Calls.{gate_of}
use Rattle.noise_gate.specs.declared.Gate.{Gate}
use Rattle.silence.proofs.Accepted.{Settable, Bounded, accepts}
use Rattle.silence.proofs.OneSample.{next-bounded}
use Rattle.pcm_gate.specs.Bytes.{words_of}
use Rattle.pcm_gate.specs.Pass.{next, after, outputs, ran, pass}
use Rattle.promises.specs.Program.{cut_in_two}
use Rattle.promises.proofs.Program.Parts.{over-parts, after-parts, outputs-parts, counts-parts, outputs-length}

-- ---- the registers stay in bounds
pub heard-at-most-64 : (w : ℕ) → T (le (absolute (heard (sample_of w))) sixty-four)
heard-at-most-64 w = heard-size w sixty-four 64 (refl, refl) (omega arith)

module _ (s : Settings) (a : Settable s) where
  pub word-bounded : (m : Registers) (w : ℕ) → Bounded m → Bounded (next s m w)
  unfolding next
  word-bounded m w b = next-bounded s m (heard (sample_of w)) a b (heard-fits w) (heard-at-most-64 w)

  words-bounded : (m : Registers) (ws : List ℕ) → Bounded m → Bounded (state_after (next s) m ws)
  unfolding state_after
  words-bounded m [] b = b
  words-bounded m (w ∷ ws) b = words-bounded (next s m w) ws (word-bounded m w b)

  pub after-bounded : (m : Registers) (input : List ℕ) → Bounded m → Bounded (after s m input)
  after-bounded m input b = words-bounded m (words_of input) b

-- ---- a call that is done
module _ (g : Gate) (a : Settable g.settings) (b : Bounded g.registers) (input out : List ℕ) (same : length input ≡ length out) where
  pub passes : pass g input out ≡ (ran g.settings g.registers input, over (outputs g.settings g.registers input) out)
  unfolding pass
  passes = rw (is_true (acceptable g) (accepts g a b), eq-eqb (length input) (length out) same)
    where
      is_true : (t : Bool) → T t → t ≡ true
      is_true true h = refl
      is_true false h = absurd h

-- ---- two calls, one after the other
module _ (g : Gate) (a : Settable g.settings) (b : Bounded g.registers) (xs ys ox oy : List ℕ) (even : length xs % 2 ≡ 0) (same : length xs ≡ length ox) (same₂ : length ys ≡ length oy) where
  pub cut : pass g (xs ++ ys) (ox ++ oy) ≡ cut_in_two g xs ys ox oy
  cut =
      let s = g.settings in
      let m = g.registers in
      rw (
        passes g a b (xs ++ ys) (ox ++ oy) (omega (arith, length-append xs ys, length-append ox oy)),
        passes g a b xs ox same,
        passes (gate_of s (after s m xs)) a (after-bounded s a m xs b) ys oy same₂,
        after-parts s m xs ys even,
        counts-parts s m xs ys even,
        outputs-parts s m xs ys even,
        over-parts (outputs s m xs) (outputs s (after s m xs) ys) ox oy (omega (arith, outputs-length s m xs)),
      )
