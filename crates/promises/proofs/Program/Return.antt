-- At ratio 1 every gain of an accepted gate is 1, so what it writes is what it read.
-- Assumes nothing.
use mathlib.Core.Path.{◌≡◌, refl, sym, ap, ◌∙◌}
use mathlib.Core.Logic.{inl}
use mathlib.Core.Bool.{Bool, true, false}
use mathlib.Core.List.{List, [], ◌∷◌}
use Prim.Native.Nat.{ℕ, suc, ◌+◌, ◌*◌, ◌/◌, ◌%◌, ◌<◌}
use native.Mathlib.Nat.{zero-mul}
use native.Mathlib.Omega.{arith}
use lib.IntN.{pos}
use lib.Dec.{T}
use lib.ListN.{length, take}
use lib.Ieee.{Float, nan, inf, fin, binary32, down, unlike, lt, add, sum, sub, mul, div, neg, round}
use lib.Ieee.Fits.{down_pos}
use lib.Ieee.Scale.{finite}
use Rattle.rounding.proofs.Smoothing.{In, plus-of, plus-finite}
use Rattle.rounding.proofs.Scaled.{times-one}
use Rattle.rounding.proofs.Zero.{round-nought, zero-factor}
use Rattle.answer.specs.Figures.{nought, one}
use Rattle.fold.specs.Fold.{out_after}
use Rattle.pcm.specs.Samples.{sample_of, heard}
use Rattle.pcm.proofs.Reading.{heard-fits}
use Rattle.pcm.proofs.Return.{word-itself}
use Rattle.noise_gate_settings.specs.declared.Settings.{Settings}
use Rattle.noise_gate_sample.specs.Figures.{wide_open}
use Rattle.noise_gate_sample.specs.Step as Step
use Rattle.noise_gate_sample.specs.declared.Registers.{Registers}
use Rattle.silence.proofs.Accepted.{Settable, Bounded}
use Rattle.silence.proofs.OneSample.{either, state-moves}
use Rattle.pcm_gate.specs.Bytes.{words_of, bytes_of}
use Rattle.pcm_gate.specs.Pass.{next, output, outputs}
use Rattle.words.specs.Words.{Bytes}
use Rattle.promises.proofs.Program.Cut.{heard-at-most-64, word-bounded}

-- ---- 0 times a finite number, and 1
zero-and-one : (s : Bool) → add binary32 (fin s 0 (pos 0)) one ≡ one
unfolding add sum round
zero-and-one true = refl
zero-and-one false = refl

no-product : (v : Float) → T (finite v) → (s : Bool) × (mul binary32 nought v ≡ fin s 0 (pos 0))
unfolding mul
no-product nan h = absurd h
no-product (inf s) h = absurd h
no-product (fin s m e) h = (unlike false s, simp zero-mul (round-nought binary32 (unlike false s) (1 * down e) (omega (arith, down_pos e))))

-- ---- the gain of a state from 0 to 1
whole-gain : (v : Float) → In binary32 one v → Step.gain_at one v ≡ one
unfolding Step.gain_at div sub add neg sum round
whole-gain v i =
    let p = no-product v (plus-finite v (plus-of v one i.above i.below tt)) in
    either (λ y. y ≡ one) (lt v wide_open)
    (sym (zero-factor binary32 nought v one (inl (false, (pos 0, refl)))) ∙ ap (λ (x : Float). add binary32 x one) p.1 ∙ zero-and-one p.0)
    refl

-- ---- samples
module _ (s : Settings) (a : Settable s) (ratio : s.ratio ≡ one) where
  same_word : (m : Registers) → Bounded m → (w : ℕ) → w < 0x1_0000 → output s m w ≡ w
  unfolding output Step.output Step.gain
  same_word m b w l =
      let x = heard (sample_of w) in
      let i = (state-moves s m x a b (heard-fits w) (heard-at-most-64 w)).inside in
      let v = Step.state s m x in
      rw (ap (λ (r : Float). Step.gain_at r v) ratio ∙ whole-gain v i, times-one binary32 x (heard-fits w)) (word-itself w l)

  pub same_bytes : (m : Registers) → Bounded m → (xs : List ℕ) → Bytes xs → outputs s m xs ≡ take (length xs / 2 * 2) xs
  unfolding words_of bytes_of out_after
  same_bytes m b [] h = refl
  same_bytes m b (x ∷ []) h = refl
  same_bytes m b (x ∷ y ∷ xs) h =
      let w = x + y * 0x100 in
      let low : x < 0x100 = h 0 in
      let high : y < 0x100 = h 1 in
      let first : w % 0x100 ≡ x = omega arith in
      let second : w / 0x100 ≡ y = omega arith in
      let two-more : length (x ∷ y ∷ xs) / 2 * 2 ≡ suc (suc (length xs / 2 * 2)) = omega arith in
      rw (same_word m b w (omega arith), first, second, two-more)
      (ap (λ (l : List ℕ). x ∷ y ∷ l) (same_bytes (next s m w) (word-bounded s a m w b) xs (λ i. h (suc (suc i)))))
