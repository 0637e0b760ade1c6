-- A block of a leveller that is done: each of its samples is heard, in the state that those before it left; and at ratio 1 and makeup 1 its outputs are its inputs.
-- Assumes nothing.
use mathlib.Core.Path.{◌≡◌, refl, sym, ◌∙◌}
use mathlib.Core.Bool.{true, false}
use mathlib.Core.List.{List, [], ◌∷◌}
use Prim.Native.Nat.{ℕ, zero, suc, ◌<◌, zero-le, suc-le-suc}
use native.Mathlib.Nat.{le_of_suc-le-suc, not-suc-le-zero}
use lib.Dec.{T}
use lib.ListN.{length, take, get_or}
use lib.Ieee.{Float, binary32, fits, eq}
use lib.Ieee.Fits.{and_i, and_l, and_r}
use Rattle.rounding.proofs.Smoothing.{sixty-four, In}
use Rattle.answer.specs.Figures.{f32, nought, one}
use Rattle.answer.specs.Checks.{is_refused}
use Rattle.answer.specs.Told.{Told}
use Rattle.answer.proofs.Samples.{accepted-size}
use Rattle.answer.proofs.Blocks as checked
use Rattle.answer.proofs.Refusals.{never_nought}
use Rattle.answer.proofs.Told.{block-by}
use Rattle.fold.specs.Fold.{state_after, out_after}
use Rattle.fold.proofs.Parts.{out_at}
use Rattle.leveller_settings.specs.Ranges.{settable}
use Rattle.leveller_settings.specs.declared.Settings.{Settings}
use Rattle.leveller_sample.specs.Step.{gain_at, gain, output, next}
use Rattle.leveller_sample.specs.declared.Registers.{Registers}
use Rattle.leveller.specs.Bounds.{in_bounds, acceptable}
use Rattle.leveller.specs.Calls.{leveller_of, after, outputs, block}
use Rattle.leveller.specs.declared.Leveller.{Leveller}
use Rattle.silence.specs.History.{all_f32}
use Rattle.silence.proofs.Accepted.{F32}
use Rattle.promises.specs.LevellerCalls.{SettingsF32}
use Rattle.promises.specs.Leveller.{Heard}
use Rattle.rounding.proofs.Scaled.{times-one}
use Rattle.promises.proofs.Leveller.Settable.{Settable, is-settable, is-bounded, accepts}
use Rattle.promises.proofs.Leveller.Sample.{next-in}

-- ---- each sample is heard
module _ (s : Settings) (a : Settable s) (f : SettingsF32 s) where
  heard-at : (m : Registers) (xs : List Float) → In binary32 sixty-four m.level → T (all_f32 xs) → ((i : ℕ) → i < length xs → is_refused (get_or xs i nought) ≡ false)
      → (k : ℕ) → k < length xs → Heard s (after s m (take k xs)) (get_or xs k nought)
  unfolding state_after f32
  heard-at m [] b fs w k h = absurd (not-suc-le-zero h)
  heard-at m (x ∷ xs) b fs w zero h =
      let fx = and_l (fits binary32 x) (all_f32 xs) fs in
      record { accepted = accepts (leveller_of s m) a b; sample = w 0 h; by_f32 = (f, and_i (fits binary32 m.level) (all_f32 (x ∷ [])) b.fit (and_i (fits binary32 x) true fx tt)) }
  heard-at m (x ∷ xs) b fs w (suc k) h =
      heard-at (next s m x) xs (next-in s m x a b (and_l (fits binary32 x) (all_f32 xs) fs) (accepted-size x (w 0 (suc-le-suc zero-le)))) (and_r (fits binary32 x) (all_f32 xs) fs) (λ i l. w (suc i) (suc-le-suc l)) k (le_of_suc-le-suc h)

pub heard : (l : Leveller) (xs out : List Float) → (block l xs out).0.number ≡ 0 → SettingsF32 l.settings → T (all_f32 (l.registers.level ∷ xs))
    → (k : ℕ) → k < length xs → Heard l.settings (after l.settings l.registers (take k xs)) (get_or xs k nought)
unfolding block acceptable
heard l xs out n f fs =
    let s = l.settings in
    let m = l.registers in
    block-by l xs out (λ t. t.0.number ≡ 0 → (k : ℕ) → k < length xs → Heard s (after s m (take k xs)) (get_or xs k nought)) (acceptable l)
    (λ r n. absurd (never_nought r (sym n)))
    (λ t e _.
    let t' : T (acceptable l) = rw t tt in
    let a = is-settable s (and_l (settable s) (in_bounds m) t') f in
    let b = is-bounded m (and_r (settable s) (in_bounds m) t') (and_l (fits binary32 m.level) (all_f32 xs) fs) in
    heard-at s a f m xs b (and_r (fits binary32 m.level) (all_f32 xs) fs) (λ i. (checked.accepted xs (length out) e).none-refused i nought))
    n

-- ---- what a done block gives
abbrev Gives : Leveller → List Float → Told Leveller × List Float → Type 0
Gives l xs t = t.0.number ≡ 0 → t.1 ≡ outputs l.settings l.registers xs

pub gives : (l : Leveller) (xs out : List Float) → Gives l xs (block l xs out)
unfolding block
gives l xs out = block-by l xs out (Gives l xs) (acceptable l) (λ r n. absurd (never_nought r (sym n))) (λ _ _ _. refl)

pub given : (l : Leveller) (xs out : List Float) → (block l xs out).0.number ≡ 0
    → (k : ℕ) → k < length xs → get_or (block l xs out).1 k nought ≡ output l.settings (after l.settings l.registers (take k xs)) (get_or xs k nought)
given l xs out n k h = rw (gives l xs out n) (out_at (next l.settings) (output l.settings) l.registers xs k nought nought h)

-- ---- ratio 1 and makeup 1
module _ (s : Settings) (ratio : s.ratio ≡ one) (makeup : s.makeup.0 ≡ one) where
  same-sample : (m : Registers) (x : Float) → F32 x → output s m x ≡ x
  unfolding output gain gain_at eq
  same-sample m x f = rw (ratio, makeup, times-one binary32 x f) (times-one binary32 x f)

  same_block : (m : Registers) (xs : List Float) → T (all_f32 xs) → outputs s m xs ≡ xs
  unfolding out_after
  same_block m [] f = refl
  same_block m (x ∷ xs) f = rw (same-sample m x (and_l (fits binary32 x) (all_f32 xs) f), same_block (next s m x) xs (and_r (fits binary32 x) (all_f32 xs) f))

pub through : (l : Leveller) (xs out : List Float) → (block l xs out).0.number ≡ 0 → T (all_f32 xs) → l.settings.ratio ≡ one → l.settings.makeup.0 ≡ one → (block l xs out).1 ≡ xs
through l xs out n f r k = gives l xs out n ∙ same_block l.settings r k l.registers xs f

-- ---- no block counts
pub counts-none : (l : Leveller) (xs out : List Float) → (block l xs out).0.count ≡ 0
unfolding block
counts-none l xs out = block-by l xs out (λ t. t.0.count ≡ 0) (acceptable l) (λ r. refl) (λ _ _. refl)
