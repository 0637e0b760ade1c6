-- A sample that is read and written unchanged is itself, and the word that is written stands for the sample that is. Assumes nothing.
use mathlib.Core.Path.{◌≡◌, refl, sym, ap, subst}
use Prim.Native.Nat.{ℕ, suc, ◌+◌, ◌-◌, ◌*◌, ◌≤◌, ◌<◌}
use native.Mathlib.Nat.{mul-pos}
use native.Mathlib.Omega.{arith}
use mathlib.Core.Bool.{Bool, true, false, true≢false, cond}
use lib.IntN.{pos, negsuc, neg_ℤ}
use lib.Dec.{ltb}
use lib.Ieee.{Float, nan, inf, fin, binary32, up, down, lt, mul}
use lib.Ieee.Back.{round_whole}
use lib.Ieee.Exact.{HasValue}
use lib.Ieee.Fits.{down_pos}
use lib.Ieee.Scale.{round_same}
use borrow.Author.Tests.{ltb-true, ltb-false, lt-ltb, le-ltb}
use Rattle.rounding.proofs.Closest.{closest-down}
use Rattle.answer.specs.Figures.{f32, nought}
use Rattle.pcm.specs.Figures.{scale_out, lowest, highest}
use Rattle.pcm.specs.Samples.{sample_of, word_of, heard, whole_size, to_whole, written}
use Rattle.pcm.proofs.Reading.{unlike-plus, heard-plus, heard-minus}
use Rattle.pcm.proofs.Signed.{plus-back, minus-back}
use Rattle.pcm.proofs.Whole.{whole-most}

-- ---- k / 32768 by 32768 is k
module _ (s : Bool) (k : ℕ) where
  scaled : k ≤ 0x8000 → (x : Float) → HasValue x s k 0x8000 → HasValue (mul binary32 x (fin false 1 (pos 15))) s k 1
  unfolding mul
  scaled h nan v = absurd v
  scaled h (inf t) v = absurd v
  scaled h (fin t m e) v =
      let d = down_pos e in
      rw (v.0, unlike-plus s)
      (subst (λ (x : Float). HasValue x s k 1)
      (sym (round_same binary32 s (m * up e * 0x8000) (down e * 1) k 1 (omega arith) (omega arith) (omega (arith, v.1))))
      (round_whole binary32 s k (omega arith)))

  whole_of : (most : ℕ) → k ≤ most → (y : Float) → HasValue y s k 1 → whole_size most y ≡ k
  unfolding whole_size
  whole_of most h nan v = absurd v
  whole_of most h (inf t) v = absurd v
  whole_of most h (fin t m e) v = let d = down_pos e in let c = closest-down (m * up e) (down e) k 0 (omega (arith, v.1)) (omega arith) in omega arith

plus : (k : ℕ) (y : Float) → HasValue y false k 1 → lt y nought ≡ false
unfolding lt
plus k nan v = absurd v
plus k (inf t) v = absurd v
plus k (fin true m e) v = absurd (true≢false v.0)
plus k (fin false m e) v = le-ltb (m * up e * 1) (0 * down e) (omega arith)

minus : (k : ℕ) (y : Float) → HasValue y true (suc k) 1 → lt y nought ≡ true
unfolding lt
minus k nan v = absurd v
minus k (inf t) v = absurd v
minus k (fin false m e) v = absurd (true≢false (sym v.0))
minus k (fin true m e) v = lt-ltb 0 (m * up e * 1 + 0 * down e) (omega (arith, v.1, mul-pos {m = suc k} {n = down e} (omega arith) (down_pos e)))

-- ---- a sample that is read and written
plus-itself : (n : ℕ) → n < 0x8000 → written (heard (pos n)) ≡ pos n
unfolding written to_whole f32
plus-itself n h =
    let y = mul binary32 (heard (pos n)) (fin false 1 (pos 15)) in
    let v : HasValue y false n 1 = scaled false n (omega arith) (heard (pos n)) (heard-plus n h) in
    rw (plus n y v) (ap pos (whole_of false n highest (omega arith) y v))

minus-itself : (n : ℕ) → n < 0x8000 → written (heard (negsuc n)) ≡ negsuc n
unfolding written to_whole f32
minus-itself n h =
    let y = mul binary32 (heard (negsuc n)) (fin false 1 (pos 15)) in
    let v : HasValue y true (suc n) 1 = scaled true (suc n) (omega arith) (heard (negsuc n)) (heard-minus n h) in
    rw (minus n y v) (ap (λ (k : ℕ). neg_ℤ (pos k)) (whole_of true (suc n) lowest (omega arith) y v))

-- ---- a word that is read and written
pub word-itself : (w : ℕ) → w < 0x1_0000 → word_of (written (heard (sample_of w))) ≡ w
unfolding sample_of word_of
word-itself w l = go (ltb w 0x8000) refl
  where
    go : (b : Bool) → ltb w 0x8000 ≡ b → word_of (written (heard (cond b (pos w) (negsuc (0xffff - w))))) ≡ w
    go true e = rw (plus-itself w (ltb-true w 0x8000 e))
    go false e = let h = ltb-false w 0x8000 e in rw (minus-itself (0xffff - w) (omega arith)) (omega arith)

-- ---- any number
held-unwrapped : (y : Float) (b : Bool) → let n = cond b (neg_ℤ (pos (whole_size lowest y))) (pos (whole_size highest y)) in sample_of (word_of n) ≡ n
held-unwrapped y true = minus-back (whole_size lowest y) (omega (arith, whole-most lowest y))
held-unwrapped y false = plus-back (whole_size highest y) (omega (arith, whole-most highest y))

pub unwrapped : (x : Float) → sample_of (word_of (written x)) ≡ written x
unfolding written to_whole
unwrapped x = let y = mul binary32 x (f32 scale_out 1) in held-unwrapped y (lt y nought)
