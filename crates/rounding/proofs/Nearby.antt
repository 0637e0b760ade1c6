-- What an exponent's field says: a finite value or none. `fma` of three normal values whose two terms are taken whole. Assumes nothing.
use mathlib.Core.Path.{◌≡◌, refl, sym, ap, ◌∙◌, subst}
use Prim.Native.Nat.{ℕ, zero, suc, ◌+◌, ◌-◌, ◌*◌, ◌/◌, ◌%◌, ◌^◌, ◌≤◌, ◌<◌, min}
use native.Mathlib.Nat.{mul_assoc, mul_left_comm, mod-mod_of_dvd, dvd-mul_right}
use native.Mathlib.Omega.{arith}
use mathlib.Core.Bool.{Bool, true, false, not, cond}
use lib.Dec.{T, leb, eqb, eqb→eq, not_T}
use lib.Pow.{pow-add, pow_pos}
use lib.Ieee.{Float, nan, inf, Format, binary32, binary64, prec, low, hid, ones, top, unlike, sum, round, odd, of_fields, of_bits, to_bits, fits, eq}
use lib.Ieee.Bits.{is_false, of_bits-to_bits}
use lib.Ieee.Nearest.{closest}
use lib.Ieee.Scale.{finite}
use Rattle.rounding.specs.Steps.{Sticky, Near, significand, pattern}
use Rattle.rounding.specs.Fma.{fma}
use Rattle.rounding.proofs.Machine.{pattern-normal, pattern-small, significand-some}
use Rattle.rounding.proofs.Values.{fma-at, bits-value}
use Rattle.rounding.proofs.Terms.{round-of-sticky}

-- ---- an exponent's field that is not all ones
odd-finite : (d : ℕ) (s : Bool) (q k l : ℕ) → T (finite (odd d s q k l))
unfolding odd
odd-finite d s zero k l = tt
odd-finite d s (suc q) k l = tt

fields-finite : (f : Format) (s : Bool) (x t : ℕ) → x < ones f → T (finite (of_fields f s x t))
unfolding of_fields
fields-finite f s zero t h = odd-finite (prec f) s t 0 (low f)
fields-finite f s (suc x) t h =
    subst (λ (b : Bool). T (finite (cond b (cond (eqb t 0) (inf s) nan) (odd (prec f) s (hid f + t) x (low f)))))
    (sym (is_false (eqb (suc x) (ones f)) (not_T (eqb (suc x) (ones f)) (λ (e : T (eqb (suc x) (ones f))). apart (suc x) (ones f) h (eqb→eq (suc x) (ones f) e)))))
    (odd-finite (prec f) s (hid f + t) x (low f))
  where
    apart : (a b : ℕ) → a < b → a ≡ b → ⊥
    apart a b l e = omega arith

pub bits-finite : (f : Format) (b : ℕ) → b % top f / hid f < ones f → T (finite (of_bits f b))
unfolding of_bits
bits-finite f b h = fields-finite f (leb (top f) b) (b % top f / hid f) (b % hid f) h

-- ---- and one that is
either-away : (s b : Bool) → T (not (finite (cond b (inf s) nan)))
either-away s true = tt
either-away s false = tt

ones-away : (f : Format) (s : Bool) (t : ℕ) → T (not (finite (of_fields f s (ones f) t)))
unfolding of_fields
ones-away binary32 s t = either-away s (eqb t 0)
ones-away binary64 s t = either-away s (eqb t 0)

pub ones-infinite : (f : Format) (x : Float) → T (fits f x) → to_bits f x % top f / hid f ≡ ones f → T (not (finite x))
unfolding of_bits
ones-infinite f x h e =
    let b = to_bits f x in
    subst (λ (z : Float). T (not (finite z))) (of_bits-to_bits f x h) (subst (λ (n : ℕ). T (not (finite (of_fields f (leb (top f) b) n (b % hid f))))) (sym e) (ones-away f (leb (top f) b) (b % hid f)))

pub below-finite : (f : Format) (x : Float) → T (fits f x) → to_bits f x % top f / hid f < ones f → T (finite x)
below-finite f x h l = subst (λ (z : Float). T (finite z)) (of_bits-to_bits f x h) (bits-finite f (to_bits f x) l)

-- ---- and none but the sign: a zero
fields-none : (f : Format) (b : ℕ) → b % top f ≡ 0 → (b % top f / hid f ≡ 0) × (b % hid f ≡ 0)
fields-none binary32 b h = (omega arith, omega arith)
fields-none binary64 b h = (omega arith, omega arith)

sign_zero : (f : Format) (s : Bool) → eq (of_fields f s 0 0) (of_bits f 0) ≡ true
unfolding of_fields of_bits eq
sign_zero binary32 true = refl
sign_zero binary32 false = refl
sign_zero binary64 true = refl
sign_zero binary64 false = refl

pub none-zero : (f : Format) (x : Float) → T (fits f x) → to_bits f x % top f ≡ 0 → eq x (of_bits f 0) ≡ true
unfolding of_bits
none-zero f x h e =
    let b = to_bits f x in
    let n = fields-none f b e in
    subst (λ (z : Float). eq z (of_bits f 0) ≡ true) (of_bits-to_bits f x h)
    (subst (λ (k : ℕ). eq (of_fields f (leb (top f) b) k (b % hid f)) (of_bits f 0) ≡ true) (sym n.0)
    (subst (λ (k : ℕ). eq (of_fields f (leb (top f) b) 0 k) (of_bits f 0) ≡ true) (sym n.1) (sign_zero f (leb (top f) b))))

-- ---- the terms, whole
module _ (f : Format) (a b c : ℕ) (fa : T (finite (of_bits f a))) (fb : T (finite (of_bits f b))) (fc : T (finite (of_bits f c))) where
  -- u is the product of the significands and e its exponent, and v is the third significand with g zeros
  pub fma-whole : (e g u v : ℕ)
      → e ≡ a % top f / hid f - 1 + (b % top f / hid f - 1) → c % top f / hid f - 1 + low f ≡ g + e
      → u ≡ significand (hid f) (a % top f) * significand (hid f) (b % top f) → v ≡ significand (hid f) (c % top f) * 2 ^ g
      → fma f (of_bits f a) (of_bits f b) (of_bits f c) ≡ sum f (unlike (leb (top f) a) (leb (top f) b)) (u * 2 ^ e) (leb (top f) c) (v * 2 ^ e) (2 ^ (low f + low f))
  fma-whole e g u v ee eg eu ev =
      let m = significand (hid f) (a % top f) in
      let n = significand (hid f) (b % top f) in
      let q = significand (hid f) (c % top f) in
      let j = a % top f / hid f - 1 in
      let k = b % top f / hid f - 1 in
      let i = c % top f / hid f - 1 in
      let l = low f in
      let U : u * 2 ^ e ≡ m * n * (2 ^ j * 2 ^ k) = ap (λ (x : ℕ). x * 2 ^ e) eu ∙ ap (λ (x : ℕ). m * n * x) (ap (λ (x : ℕ). 2 ^ x) ee ∙ pow-add 2 j k) in
      let W : v * 2 ^ e ≡ q * (2 ^ i * 2 ^ l) = ap (λ (x : ℕ). x * 2 ^ e) ev ∙ mul_assoc q (2 ^ g) (2 ^ e) ∙ ap (λ (x : ℕ). q * x) (sym (pow-add 2 g e) ∙ ap (λ (x : ℕ). 2 ^ x) (sym eg) ∙ pow-add 2 i l) in
      fma-at f (of_bits f a) (of_bits f b) (of_bits f c) (leb (top f) a) (leb (top f) b) (leb (top f) c) (m * 2 ^ j) (n * 2 ^ k) (q * 2 ^ i) (2 ^ l)
      (u * 2 ^ e) (v * 2 ^ e) (2 ^ (l + l)) (pow_pos l) (pow_pos (l + l)) (bits-value f a fa) (bits-value f b fb) (bits-value f c fc)
      (ap (λ (x : ℕ). m * 2 ^ j * (n * 2 ^ k) * x) (pow-add 2 l l) ∙ one m (2 ^ j) n (2 ^ k) (2 ^ l) ∙ ap (λ (x : ℕ). x * (2 ^ l * 2 ^ l)) (sym U))
      (ap (λ (x : ℕ). q * 2 ^ i * x) (pow-add 2 l l) ∙ two q (2 ^ i) (2 ^ l) ∙ ap (λ (x : ℕ). x * 2 ^ l) (sym W))
    where
      one : (m x n y z : ℕ) → m * x * (n * y) * (z * z) ≡ m * n * (x * y) * (z * z)
      one m x n y z = simp (mul_assoc, mul_left_comm)

      two : (q x z : ℕ) → q * x * (z * z) ≡ q * (x * z) * z
      two q x z = simp mul_assoc

-- the same, from `Near`
pub near-whole : (f : Format) (a b c g u v : ℕ) → Near f a b c g → u ≡ significand (hid f) (a % top f) * significand (hid f) (b % top f) → v ≡ significand (hid f) (c % top f) * 2 ^ g
    → fma f (of_bits f a) (of_bits f b) (of_bits f c)
    ≡ sum f (unlike (leb (top f) a) (leb (top f) b)) (u * 2 ^ (a % top f / hid f + b % top f / hid f - 2)) (leb (top f) c) (v * 2 ^ (a % top f / hid f + b % top f / hid f - 2)) (2 ^ (low f + low f))
near-whole f a b c g u v h eu ev =
    let x = a % top f / hid f in
    let y = b % top f / hid f in
    let z = c % top f / hid f in
    let xs = h.a_some in
    let ys = h.b_some in
    let zs = h.c_some in
    let far = h.apart in
    fma-whole f a b c (bits-finite f a h.a_most) (bits-finite f b h.b_most) (bits-finite f c (omega (arith, h.c_most)))
    (x + y - 2) g u v (omega arith) (omega arith) eu ev

-- ---- 63 digits m that stand for a / 2 ^ k, rounded: q is what is kept of them, x the exponent's field below the leading digit
weight : (f : Format) → 2 ^ (62 - (63 - prec f)) ≡ hid f
weight binary32 = refl
weight binary64 = refl

module _ (f : Format) (s : Bool) (a m k d q : ℕ) (lo : 2 ^ 62 ≤ m) (hi : m < 2 ^ 63) (st : Sticky m a (2 ^ k)) where
  pub made-normal : (x : ℕ) → k + (63 - prec f) ≡ x + d → q ≡ closest m (2 ^ (63 - prec f)) → of_bits f (cond s (top f) 0 + min (x * hid f + q) (ones f * hid f)) ≡ round f s a (2 ^ (d + low f))
  made-normal x e eq = ap (λ (z : ℕ). of_bits f (cond s (top f) 0 + min z (ones f * hid f))) is ∙ round-of-sticky f s a m k d lo hi st
    where
      is : x * hid f + q ≡ pattern m k (63 - prec f) d
      is =
          ap (λ (z : ℕ). x * hid f + z) eq
          ∙ ap (λ (z : ℕ). x * z + closest m (2 ^ (63 - prec f))) (sym (weight f))
          ∙ ap (λ (z : ℕ). z * 2 ^ (62 - (63 - prec f)) + closest m (2 ^ (63 - prec f))) (omega arith)
          ∙ sym (pattern-normal m k (63 - prec f) d (omega arith))

  pub made-small : k + (63 - prec f) < d → q ≡ closest m (2 ^ (d - k)) → of_bits f (cond s (top f) 0 + min q (ones f * hid f)) ≡ round f s a (2 ^ (d + low f))
  made-small l eq = ap (λ (z : ℕ). of_bits f (cond s (top f) 0 + min z (ones f * hid f))) (eq ∙ sym (pattern-small m k (63 - prec f) d l)) ∙ round-of-sticky f s a m k d lo hi st

  -- where the pattern does not reach past the infinity's
  pub made-below : (x : ℕ) → k + (63 - prec f) ≡ x + d → q ≡ closest m (2 ^ (63 - prec f)) → x * hid f + q ≤ ones f * hid f → of_bits f (cond s (top f) 0 + (x * hid f + q)) ≡ round f s a (2 ^ (d + low f))
  made-below x e eq fit = ap (λ (z : ℕ). of_bits f (cond s (top f) 0 + z)) (sym (least (x * hid f + q) (ones f * hid f) fit)) ∙ made-normal x e eq
    where
      least : (a b : ℕ) → a ≤ b → min a b ≡ a
      least a b h = omega arith

-- ---- a normal value's significand
pub significand-normal : (f : Format) (a : ℕ) → 1 ≤ a % top f / hid f → hid f + a % hid f ≡ significand (hid f) (a % top f)
significand-normal f a h =
    ap (λ (x : ℕ). hid f + x) (sym (mod-mod_of_dvd (hid f) a (dvd-mul_right (hid f) (suc (ones f)))))
    ∙ sym (significand-some (hid f) (a % top f) (λ (e : a % top f / hid f ≡ 0). omega arith))
