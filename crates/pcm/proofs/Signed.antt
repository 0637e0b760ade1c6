-- A word of two bytes read as a signed number, and a size written as one. Assumes nothing.
use mathlib.Core.Path.{◌≡◌, refl, ap}
use Prim.Native.Nat.{ℕ, zero, suc, ◌-◌, ◌%◌, ◌≤◌, ◌<◌}
use native.Mathlib.Omega.{arith}
use mathlib.Core.Bool.{Bool, true, false, cond}
use lib.IntN.{pos, negsuc, neg_ℤ}
use mir.Syntax.{w16}
use mir.Val.{to_z, sel, SFits}
use lib.Dec.{ltb}
use borrow.Author.Tests.{lt-ltb, le-ltb, ltb-true, ltb-false}
use Rattle.pcm.specs.Samples.{sample_of, word_of}

pub signed-word : (w : ℕ) → to_z w16 w ≡ sample_of w
unfolding sample_of
signed-word w = go (ltb w 0x8000)
  where
    go : (b : Bool) → sel b (pos w) (negsuc (0x1_0000 - suc w)) ≡ cond b (pos w) (negsuc (0xffff - w))
    go true = refl
    go false = ap negsuc (omega arith)

pub sample-fits : (w : ℕ) → w < 0x1_0000 → SFits w16 (sample_of w)
unfolding sample_of
sample-fits w l = go (ltb w 0x8000) refl
  where
    go : (b : Bool) → ltb w 0x8000 ≡ b → SFits w16 (cond b (pos w) (negsuc (0xffff - w)))
    go true e = record { sfits = ltb-true w 0x8000 e }
    go false e = record { sfits = omega (arith, ltb-false w 0x8000 e) }

pub minus-word : (n : ℕ) → n ≤ 0x8000 → (0x1_0000 - n) % 0x1_0000 ≡ word_of (neg_ℤ (pos n))
unfolding word_of
minus-word zero h = refl
minus-word (suc n) h = omega arith

-- ---- a sample and its word
pub plus-back : (n : ℕ) → n < 0x8000 → sample_of (word_of (pos n)) ≡ pos n
unfolding sample_of word_of
plus-back n h = rw (lt-ltb n 0x8000 h)

pub minus-back : (n : ℕ) → n ≤ 0x8000 → sample_of (word_of (neg_ℤ (pos n))) ≡ neg_ℤ (pos n)
unfolding sample_of word_of
minus-back zero h = refl
minus-back (suc n) h = rw (le-ltb (0xffff - n) 0x8000 (omega arith)) (ap negsuc (omega arith))
