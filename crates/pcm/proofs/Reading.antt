-- Reading a sample is exact, and what is read is no larger in size than 1. For any word. Assumes nothing.
use mathlib.Core.Path.{◌≡◌, refl, sym, ap, ◌∙◌, subst}
use Prim.Native.Nat.{ℕ, suc, ◌-◌, ◌*◌, ◌^◌, ◌≤◌, ◌<◌}
use native.Mathlib.Nat.{lt_of_lt_of_le, mul-lt-mul_of_pos_right, mul_assoc, mul_right_comm, mul-one}
use native.Mathlib.Omega.{arith}
use mathlib.Core.Bool.{Bool, true, false, cond}
use lib.IntN.{pos, negsuc}
use lib.Dec.{T, ltb, lit≤}
use lib.Pow.{pow_pos}
use lib.Ieee.{Float, nan, inf, fin, binary32, unlike, up, down, fits, le, div, of_int}
use lib.Ieee.Back.{round_whole}
use lib.Ieee.Exact.{HasValue, round_exact}
use lib.Ieee.Fits.{down_pos, div-fits}
use lib.Ieee.Order.{le_of_values}
use lib.Ieee.Scale.{round_same}
use borrow.Author.Tests.{ltb-true, ltb-false}
use Rattle.rounding.specs.Casts.{absolute}
use Rattle.answer.specs.Figures.{f32}
use Rattle.pcm.specs.Samples.{sample_of, heard}

-- x is n / 32768 in size, for an n of at most 32768
pub record Part (x : Float) : Type 0 where
  pub sign : Bool
  pub size : ℕ
  pub most : size ≤ 0x8000
  pub is : HasValue x sign size 0x8000

pub unlike-plus : (s : Bool) → unlike s false ≡ s
unlike-plus true = refl
unlike-plus false = refl

module _ (s : Bool) (k : ℕ) (most : k ≤ 0x8000) where
  parted : (y : Float) → HasValue y s k 1 → HasValue (div binary32 y (fin false 1 (pos 15))) s k 0x8000
  unfolding div
  parted nan v = absurd v
  parted (inf t) v = absurd v
  parted (fin t m e) v =
      let d = down_pos e in
      let size : m * up e ≡ k * down e = sym (mul-one (m * up e)) ∙ v.1 in
      rw (v.0, unlike-plus s)
      (subst (λ (x : Float). HasValue x s k 0x8000)
      (sym (round_same binary32 s (m * up e * 1) (0x8000 * down e) k 0x8000 (omega arith) (omega arith) (omega (arith, ap (λ (z : ℕ). z * 0x8000) size, mul_right_comm k (down e) 0x8000, mul_assoc k 0x8000 (down e)))))
      (round_exact binary32 s k 0x8000 k 134 (omega arith) (omega arith)
      (lt_of_lt_of_le (mul-lt-mul_of_pos_right {m = k} {n = 2 ^ 24} {k = 2 ^ 134} (omega arith) (pow_pos 134)) (lit≤ tt))
      (sym (mul_assoc k (2 ^ 134) 0x8000))))

pub heard-plus : (n : ℕ) → n < 0x8000 → HasValue (heard (pos n)) false n 0x8000
unfolding heard of_int f32
heard-plus n h = parted false n (omega arith) (of_int binary32 (pos n)) (round_whole binary32 false n (omega arith))

pub heard-minus : (n : ℕ) → n < 0x8000 → HasValue (heard (negsuc n)) true (suc n) 0x8000
unfolding heard of_int f32
heard-minus n h = parted true (suc n) (omega arith) (of_int binary32 (negsuc n)) (round_whole binary32 true (suc n) (omega arith))

pub heard-part : (w : ℕ) → Part (heard (sample_of w))
unfolding sample_of
heard-part w = go (ltb w 0x8000) refl
  where
    go : (b : Bool) → ltb w 0x8000 ≡ b → Part (heard (cond b (pos w) (negsuc (0xffff - w))))
    go true e = let h = ltb-true w 0x8000 e in record { sign = false; size = w; most = omega arith; is = heard-plus w h }
    go false e = let h = ltb-false w 0x8000 e in record { sign = true; size = suc (0xffff - w); most = omega arith; is = heard-minus (0xffff - w) (omega arith) }

absolute-value : (x : Float) (s : Bool) (a c : ℕ) → HasValue x s a c → HasValue (absolute x) false a c
unfolding absolute
absolute-value nan s a c v = v
absolute-value (inf t) s a c v = v
absolute-value (fin t m e) s a c v = (refl, v.1)

-- it is at most b in size, for any whole b that is not 0
pub heard-size : (w : ℕ) (y : Float) (b : ℕ) → HasValue y false b 1 → 1 ≤ b → T (le (absolute (heard (sample_of w))) y)
heard-size w y b v h =
    let p = heard-part w in
    le_of_values (absolute (heard (sample_of w))) y p.size 0x8000 b 1 (omega arith) (omega arith) (absolute-value _ p.sign p.size 0x8000 p.is) v (omega (arith, p.most))

pub heard-fits : (w : ℕ) → T (fits binary32 (heard (sample_of w)))
unfolding heard
heard-fits w = div-fits binary32 _ _
