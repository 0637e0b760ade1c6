-- `narrow`, `absolute` and `to_unsigned` by bit patterns and tests. Assumes nothing.
use mathlib.Core.Path.{◌≡◌, refl, sym, ap, ◌∙◌, subst}
use mathlib.Core.Logic.{◌⊎◌, inl, inr}
use Prim.Native.Nat.{ℕ, zero, suc, ◌+◌, ◌-◌, ◌*◌, ◌/◌, ◌%◌, ◌^◌, ◌≤◌, ◌<◌, min}
use native.Mathlib.Nat.{lt_of_lt_of_le, mul_comm, mul-one, mul_assoc, add-mul, mul-pos, le-mul_of_pos_right, mod-lt, mod-mod, mod-mod_of_dvd, dvd-mul_right, div-add-mod', div-eq_of_lt, le-div_iff_mul-le, eq-zero-or-pos}
use native.Mathlib.Omega.{arith}
use mathlib.Core.Bool.{Bool, true, false, not, cond, true≢false}
use lib.IntN.{pos}
use lib.Dec.{T, leb, ltb, eqb, lt→ltb, nltb→le}
use lib.Arith.{lt→nleb}
use lib.Pow.{pow-add, pow_pos, pow_mono}
use lib.Ieee.{Float, nan, inf, fin, Format, binary32, binary64, prec, low, hid, ones, top, up, down, size, round, odd, of_fields, of_bits, to_bits, fits, is_nan, nan_bits, lt, to_unsigned}
use lib.Ieee.Bits.{is_false, of_bits-to_bits, nan_bits_is, nan_bits_above}
use lib.Ieee.Exact.{HasValue}
use lib.Ieee.Fits.{down_pos}
use lib.Ieee.Nearest.{closest, closest_same}
use lib.Ieee.Scale.{round_same, finite}
use Rattle.rounding.specs.Steps.{significand, pattern}
use Rattle.rounding.specs.Casts.{narrow, absolute}
use Rattle.rounding.proofs.Closest.{le-or-lt, closest-down, closest-tie, closest-up}
use Rattle.rounding.proofs.Round.{dropped}
use Rattle.rounding.proofs.Pattern.{round-bits, round-63}
use Rattle.rounding.proofs.Values.{bits-value}
use Rattle.rounding.proofs.Machine.{significand-some, pattern-normal, pattern-small, pattern-none}
use Rattle.rounding.proofs.Terms.{significand-lt, pattern-finite}
use Rattle.rounding.proofs.Laws.{keeps_what_fits}

-- ---- the pattern of an `f32` from that of an `f64`
-- an even number of b more
closest-plus : (k a b : ℕ) → 0 < b → closest (2 * k * b + a) b ≡ 2 * k + closest a b
closest-plus k a b p =
    let q = a / b in
    let r = a % b in
    let e : a ≡ q * b + r = sym (div-add-mod' a b) in
    let l : r < b = mod-lt a p in
    let m : (2 * k + q) * b ≡ 2 * k * b + q * b = add-mul (2 * k) q b in
    let w : 2 * k * b + a ≡ (2 * k + q) * b + r = omega arith in
    elim (le-or-lt b (r * 2)) [
      | inl h ↦
          elim (le-or-lt (r * 2) b) [
            | inl j ↦
                closest-tie (2 * k * b + a) b (2 * k + q) r w p (omega arith) ∙ tie q ∙ ap (λ (x : ℕ). 2 * k + x) (sym (closest-tie a b q r e p (omega arith)))
            | inr j ↦ closest-up (2 * k * b + a) b (2 * k + q) r w l j ∙ up_one q ∙ ap (λ (x : ℕ). 2 * k + x) (sym (closest-up a b q r e l j))
          ]
      | inr h ↦ closest-down (2 * k * b + a) b (2 * k + q) r w h ∙ ap (λ (x : ℕ). 2 * k + x) (sym (closest-down a b q r e h))
    ]
  where
    tie : (q : ℕ) → 2 * k + q + (2 * k + q) % 2 ≡ 2 * k + (q + q % 2)
    tie q = omega arith

    up_one : (q : ℕ) → suc (2 * k + q) ≡ 2 * k + suc q
    up_one q = omega arith

closest-shift : (a i j : ℕ) → j ≡ i + 10 → closest (a * 1024) (2 ^ j) ≡ closest a (2 ^ i)
closest-shift a i j e =
    ap (λ (x : ℕ). closest (a * 1024) x) (ap (λ (x : ℕ). 2 ^ x) e ∙ pow-add 2 i 10)
    ∙ closest_same (a * 1024) (2 ^ i * 1024) a (2 ^ i) (mul-pos (pow_pos i) (omega arith)) (pow_pos i) (mul_assoc a 1024 (2 ^ i) ∙ ap (λ (x : ℕ). a * x) (mul_comm 1024 (2 ^ i)))

module _ (m : ℕ) where
  pub rounded-normal : 4039728865751334912 ≤ m → closest (m - 4035225266123964416) 536870912 ≡ pattern (significand 4503599627370496 m * 1024) (m / 4503599627370496 - 1) 39 935
  rounded-normal h =
      let x = m / 4503599627370496 in
      let s = significand-some 4503599627370496 m (λ (e : m / 4503599627370496 ≡ 0). omega arith) in
      let k = (x - 897) * 4194304 in
      let w : m - 4035225266123964416 ≡ 2 * k * 536870912 + (4503599627370496 + m % 4503599627370496) = omega arith in
      ap (λ (z : ℕ). closest z 536870912) w
      ∙ closest-plus k (4503599627370496 + m % 4503599627370496) 536870912 (omega arith)
      ∙ ap (λ (z : ℕ). 2 * k + closest z 536870912) (sym s)
      ∙ ap (λ (z : ℕ). 2 * k + z) (sym (closest-shift (significand 4503599627370496 m) 29 39 refl))
      ∙ ap (λ (z : ℕ). z + closest (significand 4503599627370496 m * 1024) (2 ^ 39)) (omega arith)
      ∙ sym (pattern-normal (significand 4503599627370496 m * 1024) (x - 1) 39 935 (omega arith))

  pub rounded-none : m / 4503599627370496 < 873 → 0 ≡ pattern (significand 4503599627370496 m * 1024) (m / 4503599627370496 - 1) 39 935
  rounded-none h = let l = significand-lt binary64 m in sym (pattern-none (significand 4503599627370496 m * 1024) (m / 4503599627370496 - 1) 39 935 (omega arith) (omega arith) (omega arith))

  pub rounded-small : m < 4039728865751334912 → 873 ≤ m / 4503599627370496
      → closest (4503599627370496 + m % 4503599627370496) (2 ^ (926 - m / 4503599627370496)) ≡ pattern (significand 4503599627370496 m * 1024) (m / 4503599627370496 - 1) 39 935
  rounded-small h k =
      let x = m / 4503599627370496 in
      ap (λ (z : ℕ). closest z (2 ^ (926 - x))) (sym (significand-some 4503599627370496 m (λ (e : m / 4503599627370496 ≡ 0). omega arith)))
      ∙ sym (closest-shift (significand 4503599627370496 m) (926 - x) (935 - (x - 1)) (omega arith))
      ∙ sym (pattern-small (significand 4503599627370496 m * 1024) (x - 1) 39 935 (omega arith))

-- ---- `narrow`
narrow-value : (x : Float) (s : Bool) (a : ℕ) → HasValue x s a (2 ^ 1074) → narrow x ≡ round binary32 s a (2 ^ 1074)
unfolding narrow
narrow-value nan s a h = absurd h
narrow-value (inf t) s a h = absurd h
narrow-value (fin t m e) s a (p, h) =
    ap (λ (z : Bool). round binary32 z (m * up e) (down e)) p ∙ round_same binary32 s (m * up e) (down e) a (2 ^ 1074) (down_pos e) (pow_pos 1074) h

-- with all 53 digits
full : (s : Bool) (m k : ℕ) → 4503599627370496 ≤ m → m < 9007199254740992
    → round binary32 s (m * 2 ^ k) (2 ^ 1074) ≡ of_bits binary32 (cond s 2147483648 0 + min (pattern (m * 1024) k 39 935) 2139095040)
full s m k a b =
    round_same binary32 s (m * 2 ^ k) (2 ^ 1074) (m * 1024 * 2 ^ k) (2 ^ 1084) (pow_pos 1074) (pow_pos 1084)
    (ap (λ (x : ℕ). m * 2 ^ k * x) (pow-add 2 10 1074) ∙ shuffle m (2 ^ k) 1024 (2 ^ 1074))
    ∙ round-63 binary32 s (m * 1024) k 935 (omega arith) (omega arith)
  where
    shuffle : (a b c d : ℕ) → a * b * (c * d) ≡ a * c * b * d
    shuffle a b c d = simp (mul_assoc, mul_comm)

size-zero : size 0 ≡ 0
unfolding size
size-zero = refl

-- below half the smallest value
tiny : (f : Format) (s : Bool) (a d : ℕ) → a * 2 < 2 ^ d → round f s a (2 ^ (d + low f)) ≡ of_bits f (cond s (top f) 0 + 0)
unfolding dropped
tiny f s a d h =
    let z : size (a / 2 ^ d) - prec f ≡ 0 = ap (λ (x : ℕ). size x - prec f) (div-eq_of_lt (half a (2 ^ d) h)) ∙ ap (λ (x : ℕ). x - prec f) size-zero ∙ omega arith in
    let u = 2 ^ d * 2 ^ dropped f a d in
    let q : closest a u ≡ 0 = closest-down a u 0 a (omega arith) (lt_of_lt_of_le h (le-mul_of_pos_right (2 ^ d) (pow_pos (dropped f a d)))) in
    round-bits f s a d
    ∙ ap (λ (x : ℕ). of_bits f (cond s (top f) 0 + min (dropped f a d * hid f + x) (ones f * hid f))) q
    ∙ ap (λ (x : ℕ). of_bits f (cond s (top f) 0 + min (x * hid f + 0) (ones f * hid f))) z
    ∙ ap (λ (x : ℕ). of_bits f (cond s (top f) 0 + x)) (omega arith)
  where
    half : (x y : ℕ) → x * 2 < y → x < y
    half x y k = omega arith

abbrev of-pattern : ℕ → ℕ
of-pattern b = pattern (significand 4503599627370496 (b % 9223372036854775808) * 1024) (b % 9223372036854775808 / 4503599627370496 - 1) 39 935

narrow_bits : (b : ℕ) → T (finite (of_bits binary64 b))
    → narrow (of_bits binary64 b) ≡ of_bits binary32 (cond (leb 9223372036854775808 b) 2147483648 0 + min (of-pattern b) 2139095040)
narrow_bits b h =
    let s = leb 9223372036854775808 b in
    let r = b % 9223372036854775808 in
    narrow-value (of_bits binary64 b) s (significand 4503599627370496 r * 2 ^ (r / 4503599627370496 - 1)) (bits-value binary64 b h) ∙ go s r (eq-zero-or-pos (r / 4503599627370496))
  where
    short : (x : ℕ) → x < 9007199254740992 → x * 2 < 2 ^ 54
    short x k = omega arith

    go : (s : Bool) (r : ℕ) → (r / 4503599627370496 ≡ 0) ⊎ (0 < r / 4503599627370496)
        → round binary32 s (significand 4503599627370496 r * 2 ^ (r / 4503599627370496 - 1)) (2 ^ 1074)
        ≡ of_bits binary32 (cond s 2147483648 0 + min (pattern (significand 4503599627370496 r * 1024) (r / 4503599627370496 - 1) 39 935) 2139095040)
    go s r (inl e) =
        let k : r / 4503599627370496 - 1 ≡ 0 = omega arith in
        let m = significand 4503599627370496 r in
        let l = significand-lt binary64 r in
        ap (λ (x : ℕ). round binary32 s (m * 2 ^ x) (2 ^ 1074)) k
        ∙ ap (λ (x : ℕ). round binary32 s x (2 ^ 1074)) (mul-one m)
        ∙ tiny binary32 s m 925 (lt_of_lt_of_le (short m l) (pow_mono {i = 54} {j = 925} (omega arith)))
        ∙ ap (λ (x : ℕ). of_bits binary32 (cond s 2147483648 0 + min x 2139095040)) (rounded-none r (omega arith))
    go s r (inr p) =
        let e = significand-some 4503599627370496 r (λ (e : r / 4503599627370496 ≡ 0). omega arith) in
        full s (significand 4503599627370496 r) (r / 4503599627370496 - 1) (omega arith) (significand-lt binary64 r)

narrow-inf : (s : Bool) → of_bits binary32 (cond (leb 9223372036854775808 (to_bits binary64 (inf s))) 2147483648 0 + min (of-pattern (to_bits binary64 (inf s))) 2139095040) ≡ narrow (inf s)
unfolding to_bits pattern significand of_bits narrow
narrow-inf true = refl
narrow-inf false = refl

pub narrowed-is : (x : Float) → T (fits binary64 x) → T (not (is_nan x))
    → of_bits binary32 (cond (leb 9223372036854775808 (to_bits binary64 x)) 2147483648 0 + min (of-pattern (to_bits binary64 x)) 2139095040) ≡ narrow x
unfolding is_nan
narrowed-is nan h k = absurd k
narrowed-is (inf s) h k = narrow-inf s
narrowed-is (fin s m e) h k =
    sym (narrow_bits (to_bits binary64 (fin s m e)) (pattern-finite binary64 (fin s m e) h tt)) ∙ ap narrow (of_bits-to_bits binary64 (fin s m e) h)

pub narrow-nan : (x : Float) → x ≡ nan → nan ≡ narrow x
unfolding narrow
narrow-nan x e = sym (ap narrow e)

-- an `f32` stays
pub narrow-own : (x : Float) → T (fits binary32 x) → narrow x ≡ x
unfolding narrow
narrow-own nan h = refl
narrow-own (inf s) h = refl
narrow-own (fin s m e) h = keeps_what_fits binary32 s m e h

-- ---- `absolute`
odd-absolute : (d : ℕ) (s : Bool) (q k l : ℕ) → odd d false q k l ≡ absolute (odd d s q k l)
unfolding odd absolute
odd-absolute d s zero k l = refl
odd-absolute d s (suc q) k l = refl

fields-absolute : (f : Format) (s : Bool) (x t : ℕ) → of_fields f false x t ≡ absolute (of_fields f s x t)
unfolding of_fields absolute
fields-absolute f s zero t = odd-absolute (prec f) s t 0 (low f)
fields-absolute f s (suc x) t = go (eqb (suc x) (ones f)) (eqb t 0)
  where
    go : (p q : Bool) → cond p (cond q (inf false) nan) (odd (prec f) false (hid f + t) x (low f)) ≡ absolute (cond p (cond q (inf s) nan) (odd (prec f) s (hid f + t) x (low f)))
    go true true = refl
    go true false = refl
    go false q = odd-absolute (prec f) s (hid f + t) x (low f)

top_pos : (f : Format) → 0 < top f
top_pos binary32 = omega arith
top_pos binary64 = omega arith

bits-absolute : (f : Format) (b : ℕ) → of_bits f (b % top f) ≡ absolute (of_bits f b)
unfolding of_bits
bits-absolute f b =
    ap (λ (z : Bool). of_fields f z (b % top f % top f / hid f) (b % top f % hid f)) (is_false (leb (top f) (b % top f)) (lt→nleb (top f) (b % top f) (mod-lt b (top_pos f))))
    ∙ ap (λ (z : ℕ). of_fields f false (z / hid f) (b % top f % hid f)) (mod-mod b (top f))
    ∙ ap (λ (z : ℕ). of_fields f false (b % top f / hid f) z) (mod-mod_of_dvd (hid f) b (dvd-mul_right (hid f) (suc (ones f))))
    ∙ fields-absolute f (leb (top f) b) (b % top f / hid f) (b % hid f)

pub absolute-is : (f : Format) (x : Float) → T (fits f x) → of_bits f (to_bits f x % top f) ≡ absolute x
absolute-is f x h = bits-absolute f (to_bits f x) ∙ ap absolute (of_bits-to_bits f x h)

pub absolute-nan : (x : Float) → x ≡ nan → nan ≡ absolute x
unfolding absolute
absolute-nan x e = sym (ap absolute e)

pub absolute-no-nan : (f : Format) (x : Float) → T (fits f x) → T (not (is_nan x)) → T (not (nan_bits f (to_bits f x % top f)))
absolute-no-nan f x h k =
    subst (λ (z : Bool). T (not z))
    (sym
    (nan_bits_above f (to_bits f x % top f)
    ∙ ap (λ (z : ℕ). ltb (ones f * hid f) z) (mod-mod (to_bits f x) (top f))
    ∙ sym (nan_bits_above f (to_bits f x))
    ∙ nan_bits_is f (to_bits f x)
    ∙ ap is_nan (of_bits-to_bits f x h)))
    k

-- ---- `to_unsigned`
clash : (a b : ℕ) → ltb a b ≡ false → a < b → ⊥
clash a b e h = subst T e (lt→ltb a b h)

pub cut-none : (x : Float) → lt (fin true 1 (pos 0)) x ≡ false → 0 ≡ to_unsigned 64 x
unfolding lt to_unsigned
cut-none nan h = refl
cut-none (inf true) h = refl
cut-none (inf false) h = absurd (true≢false h)
cut-none (fin true m e) h = refl
cut-none (fin false m e) h = absurd (clash 0 (1 * 1 * down e + m * up e * 1) h (let p = down_pos e in omega arith))

pub cut_most : (x : Float) → lt (fin true 1 (pos 0)) x ≡ true → lt x (fin false 1 (pos 64)) ≡ false → 18446744073709551615 ≡ to_unsigned 64 x
unfolding lt to_unsigned
cut_most nan h k = absurd (true≢false (sym h))
cut_most (inf true) h k = absurd (true≢false (sym h))
cut_most (inf false) h k = refl
cut_most (fin true m e) h k = absurd (clash 0 (m * up e * 1 + 18446744073709551616 * down e) k (let p = down_pos e in omega arith))
cut_most (fin false m e) h k =
    let p = down_pos e in
    let l : 18446744073709551616 * down e ≤ m * up e * 1 = nltb→le (m * up e * 1) (18446744073709551616 * down e) (subst (λ (b : Bool). T (not b)) (sym k) tt) in
    let g : 18446744073709551616 ≤ m * up e / down e = (le-div_iff_mul-le p).1 (omega arith) in
    omega arith
