-- `fma` of three finite values by their bit patterns: the sum of two terms at one exponent, the lesser cut to an odd number. Once for both formats. Assumes nothing.
use mathlib.Core.Path.{◌≡◌, refl, sym, ap, ◌∙◌, subst}
use mathlib.Core.Logic.{◌⊎◌, inl, inr}
use Prim.Native.Nat.{ℕ, ◌+◌, ◌-◌, ◌*◌, ◌/◌, ◌%◌, ◌^◌, ◌≤◌, ◌<◌, min, max}
use native.Mathlib.Nat.{le_trans, le_of_eq, lt_of_le_of_lt, mul_comm, mul-one, zero-mul, mul_assoc, mul_left_comm, mul_right_comm, mul-le-mul, add-mul, mul-sub, mul-lt-mul_of_pos_right, mul-pos, mod-lt, eq-zero-or-pos, zero-div, zero-add, add-mod_left, mod-eq_of_lt}
use native.Mathlib.Omega.{arith}
use mathlib.Core.Bool.{Bool, true, false, not, cond, beq, true≢false}
use lib.Dec.{T, leb, eqb, eqb→eq, le→leb, not_T}
use lib.Arith.{le→nltb, lt→nleb}
use lib.Pow.{pow-add, pow_pos, pow_mono}
use lib.Ieee.{Float, nan, inf, fin, Format, binary32, binary64, prec, low, hid, ones, top, unlike, sum, add, mul, round, size, of_bits, to_bits, fits, nan_bits, is_nan}
use lib.Ieee.Bits.{is_true, is_false, nan_bits_above, of_bits-to_bits}
use lib.Ieee.Nearest.{closest}
use lib.Ieee.Scale.{finite}
use lib.Ieee.Exact.{HasValue}
use Rattle.std.specs.Float.{float_is_finite}
use Rattle.rounding.specs.Steps.{Sticky, stick, significand, exponent, pattern}
use Rattle.rounding.specs.Fma.{product, fma}
use Rattle.rounding.proofs.Closest.{closest-down}
use Rattle.rounding.proofs.Round.{dropped, round-sticky}
use Rattle.rounding.proofs.Pattern.{round-bits, round-63}
use Rattle.rounding.proofs.Values.{fma-at, bits-value}
use Rattle.rounding.proofs.Fused.{lift, lift-c, start, deep, fused, sum_like, sum_less, sum_more, sum-none}
use Rattle.rounding.proofs.Machine.{significand-none, significand-some}

-- ---- a significand
twice_hid : (f : Format) → 2 ^ prec f ≡ 2 * hid f
twice_hid binary32 = refl
twice_hid binary64 = refl

pub significand-lt : (f : Format) (b : ℕ) → significand (hid f) b < 2 ^ prec f
significand-lt f b =
    let m : b % hid f < hid f = mod-lt b (pow_pos (prec f - 1)) in
    let t = twice_hid f in
    go (eq-zero-or-pos (b / hid f)) m t
  where
    go : (b / hid f ≡ 0) ⊎ (0 < b / hid f) → b % hid f < hid f → 2 ^ prec f ≡ 2 * hid f → significand (hid f) b < 2 ^ prec f
    go (inl e) m t = omega (arith, significand-none (hid f) b e)
    go (inr h) m t = omega (arith, significand-some (hid f) b (λ (e : b / hid f ≡ 0). omega arith))

-- it has all its digits, or the exponent is 0
pub significand-ok : (f : Format) (b : ℕ) → (b / hid f - 1 ≡ 0) ⊎ (2 ^ (prec f - 1) ≤ significand (hid f) b)
significand-ok f b = go (eq-zero-or-pos (b / hid f))
  where
    go : (b / hid f ≡ 0) ⊎ (0 < b / hid f) → (b / hid f - 1 ≡ 0) ⊎ (2 ^ (prec f - 1) ≤ significand (hid f) b)
    go (inl e) = inl (omega arith)
    go (inr h) = inr (omega (arith, significand-some (hid f) b (λ (e : b / hid f ≡ 0). omega arith)))

-- ---- the product of two
pub exponent-none : (p k : ℕ) → p ≡ 0 → exponent p k ≡ 0
unfolding exponent
exponent-none p k e = ap (λ (x : ℕ). cond (eqb x 0) 0 k) e

pub exponent-some : (p k : ℕ) → (p ≡ 0 → ⊥) → exponent p k ≡ k
unfolding exponent
exponent-some p k n = ap (λ (x : Bool). cond x 0 k) (is_false (eqb p 0) (not_T (eqb p 0) (λ (t : T (eqb p 0)). n (eqb→eq p 0 t))))

pub exponent-le : (p k : ℕ) → exponent p k ≤ k
exponent-le p k = go (eq-zero-or-pos p)
  where
    go : (p ≡ 0) ⊎ (0 < p) → exponent p k ≤ k
    go (inl e) = omega (arith, exponent-none p k e)
    go (inr h) = omega (arith, exponent-some p k (λ (e : p ≡ 0). omega arith))

exponent-value : (p k : ℕ) → p * 2 ^ exponent p k ≡ p * 2 ^ k
exponent-value p k = go (eq-zero-or-pos p)
  where
    go : (p ≡ 0) ⊎ (0 < p) → p * 2 ^ exponent p k ≡ p * 2 ^ k
    go (inl e) = ap (λ (x : ℕ). x * 2 ^ exponent p k) e ∙ zero-mul (2 ^ exponent p k) ∙ sym (zero-mul (2 ^ k)) ∙ ap (λ (x : ℕ). x * 2 ^ k) (sym e)
    go (inr h) = ap (λ (x : ℕ). p * 2 ^ x) (exponent-some p k (λ (e : p ≡ 0). omega arith))

factor-l : (m n : ℕ) → 0 < m * n → 0 < n
factor-l m n h = elim (eq-zero-or-pos n) [ inl e ↦ absurd (none (m * n) h (ap (λ (x : ℕ). m * x) e ∙ mul_comm m 0 ∙ zero-mul m)) | inr k ↦ k ]
  where
    none : (x : ℕ) → 0 < x → x ≡ 0 → ⊥
    none x a b = omega arith

big-factor : (h m n : ℕ) → h ≤ m → 0 < m * n → h ≤ m * n
big-factor h m n a b = le_trans (le_of_eq (sym (mul-one h))) (mul-le-mul a (factor-l m n b))

pub product_ok : (h m j n k : ℕ) → (j ≡ 0) ⊎ (h ≤ m) → (k ≡ 0) ⊎ (h ≤ n) → (exponent (m * n) (j + k) ≡ 0) ⊎ (h ≤ m * n)
product_ok h m j n k a b = go (eq-zero-or-pos (m * n)) a b
  where
    go : (m * n ≡ 0) ⊎ (0 < m * n) → (j ≡ 0) ⊎ (h ≤ m) → (k ≡ 0) ⊎ (h ≤ n) → (exponent (m * n) (j + k) ≡ 0) ⊎ (h ≤ m * n)
    go (inl e) a b = inl (exponent-none (m * n) (j + k) e)
    go (inr l) (inr x) b = inr (big-factor h m n x l)
    go (inr l) (inl x) (inr y) = inr (le_trans (big-factor h n m y (subst (λ (z : ℕ). 0 < z) (mul_comm m n) l)) (le_of_eq (mul_comm n m)))
    go (inr l) (inl x) (inl y) = inl (exponent-some (m * n) (j + k) (λ (e : m * n ≡ 0). omega arith) ∙ omega arith)

pub product_lt : (f : Format) (m n : ℕ) → m < 2 ^ prec f → n < 2 ^ prec f → m * n < 2 ^ (2 * prec f)
product_lt f m n a b = lt_of_le_of_lt (mul-le-mul {n₁ = m} {m₁ = n} {n₂ = 2 ^ prec f - 1} {m₂ = 2 ^ prec f - 1} (omega arith) (omega arith)) (last f)
  where
    last : (f : Format) → (2 ^ prec f - 1) * (2 ^ prec f - 1) < 2 ^ (2 * prec f)
    last binary32 = omega arith
    last binary64 = omega arith

-- ---- the exponents
depth-x : (f : Format) → lift f + (low f + low f) ≡ deep f + low f
depth-x binary32 = refl
depth-x binary64 = refl

depth-c : (f : Format) → lift-c f + start f + low f ≡ deep f + low f
depth-c binary32 = refl
depth-c binary64 = refl

term-x : (f : Format) (m n j k x : ℕ) → m * n * 2 ^ x ≡ m * n * 2 ^ (j + k) → m * 2 ^ j * (n * 2 ^ k) * 2 ^ (deep f + low f) ≡ m * n * 2 ^ lift f * 2 ^ x * (2 ^ low f * 2 ^ low f)
term-x f m n j k x e =
    ap (λ (z : ℕ). m * 2 ^ j * (n * 2 ^ k) * z) (ap (λ (z : ℕ). 2 ^ z) (sym (depth-x f)) ∙ pow-add 2 (lift f) (low f + low f) ∙ ap (λ (z : ℕ). 2 ^ lift f * z) (pow-add 2 (low f) (low f)))
    ∙ one ∙ ap (λ (z : ℕ). m * n * z * (2 ^ lift f * (2 ^ low f * 2 ^ low f))) (sym (pow-add 2 j k)) ∙ ap (λ (z : ℕ). z * (2 ^ lift f * (2 ^ low f * 2 ^ low f))) (sym e) ∙ two
  where
    one : m * 2 ^ j * (n * 2 ^ k) * (2 ^ lift f * (2 ^ low f * 2 ^ low f)) ≡ m * n * (2 ^ j * 2 ^ k) * (2 ^ lift f * (2 ^ low f * 2 ^ low f))
    one = ap (λ (z : ℕ). z * (2 ^ lift f * (2 ^ low f * 2 ^ low f))) (shuffle m (2 ^ j) n (2 ^ k))
      where
        shuffle : (a b c d : ℕ) → a * b * (c * d) ≡ a * c * (b * d)
        shuffle a b c d = simp (mul_assoc, mul_left_comm)

    two : m * n * 2 ^ x * (2 ^ lift f * (2 ^ low f * 2 ^ low f)) ≡ m * n * 2 ^ lift f * 2 ^ x * (2 ^ low f * 2 ^ low f)
    two = sym (mul_assoc (m * n * 2 ^ x) (2 ^ lift f) (2 ^ low f * 2 ^ low f)) ∙ ap (λ (z : ℕ). z * (2 ^ low f * 2 ^ low f)) (mul_right_comm (m * n) (2 ^ x) (2 ^ lift f))

term-c : (f : Format) (m k : ℕ) → m * 2 ^ k * 2 ^ (deep f + low f) ≡ m * 2 ^ lift-c f * 2 ^ (k + start f) * 2 ^ low f
term-c f m k =
    ap (λ (z : ℕ). m * 2 ^ k * z) (ap (λ (z : ℕ). 2 ^ z) (sym (depth-c f)) ∙ pow-add 2 (lift-c f + start f) (low f) ∙ ap (λ (z : ℕ). z * 2 ^ low f) (pow-add 2 (lift-c f) (start f)))
    ∙ shuffle m (2 ^ k) (2 ^ lift-c f) (2 ^ start f) (2 ^ low f)
    ∙ ap (λ (z : ℕ). m * 2 ^ lift-c f * z * 2 ^ low f) (sym (pow-add 2 k (start f)))
  where
    shuffle : (a b c d e : ℕ) → a * b * (c * d * e) ≡ a * c * (b * d) * e
    shuffle a b c d e = simp (mul_assoc, mul_left_comm)

-- ---- the theorem, by patterns
module _ (f : Format) (a b c : ℕ) (fa : T (finite (of_bits f a))) (fb : T (finite (of_bits f b))) (fc : T (finite (of_bits f c))) where
  pub fma-patterns : (m j n k q i : ℕ) → m ≡ significand (hid f) (a % top f) → j ≡ a % top f / hid f - 1 → n ≡ significand (hid f) (b % top f) → k ≡ b % top f / hid f - 1
      → q ≡ significand (hid f) (c % top f) → i ≡ c % top f / hid f - 1
      → fma f (of_bits f a) (of_bits f b) (of_bits f c)
      ≡ sum f (unlike (leb (top f) a) (leb (top f) b)) (stick (m * n * 2 ^ lift f) (i + start f - exponent (m * n) (j + k)) * 2 ^ max (exponent (m * n) (j + k)) (i + start f))
      (leb (top f) c) (stick (q * 2 ^ lift-c f) (exponent (m * n) (j + k) - (i + start f)) * 2 ^ max (exponent (m * n) (j + k)) (i + start f)) (2 ^ (deep f + low f))
  fma-patterns m j n k q i em ej en ek eq ei =
      let x = exponent (m * n) (j + k) in
      let m-lt : m < 2 ^ prec f = subst (λ (z : ℕ). z < 2 ^ prec f) (sym em) (significand-lt f (a % top f)) in
      let n-lt : n < 2 ^ prec f = subst (λ (z : ℕ). z < 2 ^ prec f) (sym en) (significand-lt f (b % top f)) in
      let q-lt : q < 2 ^ prec f = subst (λ (z : ℕ). z < 2 ^ prec f) (sym eq) (significand-lt f (c % top f)) in
      let m-ok = subst (λ (z : ℕ). (j ≡ 0) ⊎ (2 ^ (prec f - 1) ≤ z)) (sym em) (subst (λ (z : ℕ). (z ≡ 0) ⊎ (2 ^ (prec f - 1) ≤ significand (hid f) (a % top f))) (sym ej) (significand-ok f (a % top f))) in
      let n-ok = subst (λ (z : ℕ). (k ≡ 0) ⊎ (2 ^ (prec f - 1) ≤ z)) (sym en) (subst (λ (z : ℕ). (z ≡ 0) ⊎ (2 ^ (prec f - 1) ≤ significand (hid f) (b % top f))) (sym ek) (significand-ok f (b % top f))) in
      let q-ok = subst (λ (z : ℕ). (i ≡ 0) ⊎ (2 ^ (prec f - 1) ≤ z)) (sym eq) (subst (λ (z : ℕ). (z ≡ 0) ⊎ (2 ^ (prec f - 1) ≤ significand (hid f) (c % top f))) (sym ei) (significand-ok f (c % top f))) in
      let va = subst (λ (z : ℕ). HasValue (of_bits f a) (leb (top f) a) (z * 2 ^ j) (2 ^ low f)) (sym em)
      (subst (λ (z : ℕ). HasValue (of_bits f a) (leb (top f) a) (significand (hid f) (a % top f) * 2 ^ z) (2 ^ low f)) (sym ej) (bits-value f a fa)) in
      let vb = subst (λ (z : ℕ). HasValue (of_bits f b) (leb (top f) b) (z * 2 ^ k) (2 ^ low f)) (sym en)
      (subst (λ (z : ℕ). HasValue (of_bits f b) (leb (top f) b) (significand (hid f) (b % top f) * 2 ^ z) (2 ^ low f)) (sym ek) (bits-value f b fb)) in
      let vc = subst (λ (z : ℕ). HasValue (of_bits f c) (leb (top f) c) (z * 2 ^ i) (2 ^ low f)) (sym eq)
      (subst (λ (z : ℕ). HasValue (of_bits f c) (leb (top f) c) (significand (hid f) (c % top f) * 2 ^ z) (2 ^ low f)) (sym ei) (bits-value f c fc)) in
      fma-at f (of_bits f a) (of_bits f b) (of_bits f c) (leb (top f) a) (leb (top f) b) (leb (top f) c) (m * 2 ^ j) (n * 2 ^ k) (q * 2 ^ i) (2 ^ low f)
      (m * n * 2 ^ lift f * 2 ^ x) (q * 2 ^ lift-c f * 2 ^ (i + start f)) (2 ^ (deep f + low f)) (pow_pos (low f)) (pow_pos (deep f + low f)) va vb vc
      (term-x f m n j k x (exponent-value (m * n) (j + k))) (term-c f q i)
      ∙ fused f (m * n) x q i (product_lt f m n m-lt n-lt) q-lt (product_ok (2 ^ (prec f - 1)) m j n k m-ok n-ok) q-ok (unlike (leb (top f) a) (leb (top f) b)) (leb (top f) c)

-- ---- zero
size-zero : size 0 ≡ 0
unfolding size
size-zero = refl

pub round-zero : (f : Format) (s : Bool) (d : ℕ) → round f s 0 (2 ^ (d + low f)) ≡ of_bits f (cond s (top f) 0 + 0)
unfolding dropped
round-zero f s d =
    let z : size (0 / 2 ^ d) - prec f ≡ 0 = ap (λ (x : ℕ). size x - prec f) (zero-div (2 ^ d)) ∙ ap (λ (x : ℕ). x - prec f) size-zero ∙ omega arith in
    let u = 2 ^ d * 2 ^ dropped f 0 d in
    let q : closest 0 u ≡ 0 = closest-down 0 u 0 0 (omega arith) (mul-pos (pow_pos d) (pow_pos (dropped f 0 d))) in
    round-bits f s 0 d
    ∙ ap (λ (x : ℕ). of_bits f (cond s (top f) 0 + min (dropped f 0 d * hid f + x) (ones f * hid f))) q
    ∙ ap (λ (x : ℕ). of_bits f (cond s (top f) 0 + min (x * hid f + 0) (ones f * hid f))) z
    ∙ ap (λ (x : ℕ). of_bits f (cond s (top f) 0 + x)) (omega arith)

-- ---- where an operand is not finite
pub product-plain : (f : Format) (x y : Float) → (T (not (finite x))) ⊎ (T (not (finite y))) → mul f x y ≡ product x y
unfolding mul product
product-plain f nan y h = refl
product-plain f (inf s) nan h = refl
product-plain f (inf s) (inf t) h = refl
product-plain f (inf s) (fin t n d) h = refl
product-plain f (fin s m e) nan h = refl
product-plain f (fin s m e) (inf t) h = refl
product-plain f (fin s m e) (fin t n d) (inl h) = absurd h
product-plain f (fin s m e) (fin t n d) (inr h) = absurd h

pub fma-plain : (f : Format) (x y z : Float) → (T (not (finite x))) ⊎ (T (not (finite y))) → add f (mul f x y) z ≡ fma f x y z
unfolding fma
fma-plain f x y z h = ap (λ (p : Float). add f p z) (product-plain f x y h)

pub fma-third : (f : Format) (x y z : Float) → T (finite x) → T (finite y) → T (not (finite z)) → z ≡ fma f x y z
unfolding fma product add
fma-third f (fin s m e) (fin t n d) nan p q h = refl
fma-third f (fin s m e) (fin t n d) (inf u) p q h = refl
fma-third f (fin s m e) (fin t n d) (fin u k g) p q h = absurd h
fma-third f nan y z p q h = absurd p
fma-third f (inf s) y z p q h = absurd p
fma-third f (fin s m e) nan z p q h = absurd q
fma-third f (fin s m e) (inf t) z p q h = absurd q

-- ---- a pattern up to the infinity's: behind its sign, and no NaN's
below_top : (f : Format) (b : ℕ) → b ≤ ones f * hid f → b < top f
below_top binary32 b h = omega arith
below_top binary64 b h = omega arith

pub behind-sign : (f : Format) (s : Bool) (b : ℕ) → b ≤ ones f * hid f → (cond s (top f) 0 + b) % top f ≡ b
behind-sign f true b h = add-mod_left (top f) b ∙ mod-eq_of_lt (below_top f b h)
behind-sign f false b h = ap (λ (x : ℕ). x % top f) (zero-add b) ∙ mod-eq_of_lt (below_top f b h)

pub sign_of : (f : Format) (s : Bool) (b : ℕ) → b ≤ ones f * hid f → leb (top f) (cond s (top f) 0 + b) ≡ s
sign_of f true b h = is_true (leb (top f) (top f + b)) (le→leb (top f) (top f + b) (omega arith))
sign_of f false b h = ap (leb (top f)) (zero-add b) ∙ is_false (leb (top f) b) (lt→nleb (top f) b (below_top f b h))

pub no_nan : (f : Format) (s : Bool) (b : ℕ) → b ≤ ones f * hid f → T (not (nan_bits f (cond s (top f) 0 + b)))
no_nan f s b h =
    subst (λ (x : Bool). T (not x)) (sym (nan_bits_above f (cond s (top f) 0 + b)))
    (le→nltb (ones f * hid f) ((cond s (top f) 0 + b) % top f) (le_trans (le_of_eq (behind-sign f s b h)) h))

-- ---- a test for what is finite
pub not_finite : (x : Float) → float_is_finite x ≡ false → T (not (finite x))
unfolding float_is_finite
not_finite nan e = tt
not_finite (inf s) e = tt
not_finite (fin s m d) e = absurd (true≢false e)

pub is_finite : (x : Float) → float_is_finite x ≡ true → T (finite x)
unfolding float_is_finite
is_finite nan e = absurd (true≢false (sym e))
is_finite (inf s) e = absurd (true≢false (sym e))
is_finite (fin s m d) e = tt

pub finite-no-nan : (x : Float) → T (finite x) → T (not (is_nan x))
unfolding is_nan
finite-no-nan nan h = absurd h
finite-no-nan (inf s) h = absurd h
finite-no-nan (fin s m e) h = tt

pub infinity : (f : Format) → of_bits f (ones f * hid f) ≡ inf false
unfolding of_bits
infinity binary32 = refl
infinity binary64 = refl

-- ---- a sum of two terms at one exponent
pub total-like : (f : Format) (s t : Bool) (u v e c : ℕ) → T (beq s t) → round f s ((u + v) * 2 ^ e) c ≡ sum f s (u * 2 ^ e) t (v * 2 ^ e) c
total-like f s t u v e c h = ap (λ (x : ℕ). round f s x c) (add-mul u v (2 ^ e)) ∙ sym (sum_like f s t (u * 2 ^ e) (v * 2 ^ e) c h)

times-sub : (a b g : ℕ) → (a - b) * g ≡ a * g - b * g
times-sub a b g = mul_comm (a - b) g ∙ mul-sub g a b ∙ omega (arith, mul_comm g a, mul_comm g b)

pub total-less : (f : Format) (s t : Bool) (u v e c : ℕ) → T (not (beq s t)) → u < v → round f t ((v - u) * 2 ^ e) c ≡ sum f s (u * 2 ^ e) t (v * 2 ^ e) c
total-less f s t u v e c h l = ap (λ (x : ℕ). round f t x c) (times-sub v u (2 ^ e)) ∙ sym (sum_less f s t (u * 2 ^ e) (v * 2 ^ e) c h (mul-lt-mul_of_pos_right l (pow_pos e)))

pub total-more : (f : Format) (s t : Bool) (u v e c : ℕ) → T (not (beq s t)) → v < u → round f s ((u - v) * 2 ^ e) c ≡ sum f s (u * 2 ^ e) t (v * 2 ^ e) c
total-more f s t u v e c h l = ap (λ (x : ℕ). round f s x c) (times-sub u v (2 ^ e)) ∙ sym (sum_more f s t (u * 2 ^ e) (v * 2 ^ e) c h (mul-lt-mul_of_pos_right l (pow_pos e)))

pub total-none : (f : Format) (s t : Bool) (u v e d : ℕ) → T (not (beq s t)) → u ≤ v → v ≤ u → of_bits f 0 ≡ sum f s (u * 2 ^ e) t (v * 2 ^ e) (2 ^ (d + low f))
total-none f s t u v e d h a b =
    let same : v ≡ u = omega arith in
    sym (ap (λ (x : ℕ). sum f s (u * 2 ^ e) t (x * 2 ^ e) (2 ^ (d + low f))) same ∙ sum-none f s t (u * 2 ^ e) (2 ^ (d + low f)) h ∙ round-zero f false d)

-- the terms as the code has them
module _ (f : Format) (a b c : ℕ) (fa : T (finite (of_bits f a))) (fb : T (finite (of_bits f b))) (fc : T (finite (of_bits f c))) where
  pub fma-of-terms : (m j n k q i x u v e : ℕ) (r : Float) → m ≡ significand (hid f) (a % top f) → j ≡ a % top f / hid f - 1 → n ≡ significand (hid f) (b % top f) → k ≡ b % top f / hid f - 1
      → q ≡ significand (hid f) (c % top f) → i ≡ c % top f / hid f - 1 → x ≡ exponent (m * n) (j + k)
      → u ≡ stick (m * n * 2 ^ lift f) (i + start f - x) → v ≡ stick (q * 2 ^ lift-c f) (x - (i + start f)) → e ≡ max x (i + start f)
      → r ≡ sum f (unlike (leb (top f) a) (leb (top f) b)) (u * 2 ^ e) (leb (top f) c) (v * 2 ^ e) (2 ^ (deep f + low f))
      → r ≡ fma f (of_bits f a) (of_bits f b) (of_bits f c)
  fma-of-terms m j n k q i x u v e r em ej en ek eq ei ex eu ev ee er =
      let s = unlike (leb (top f) a) (leb (top f) b) in
      let t = leb (top f) c in
      let den = 2 ^ (deep f + low f) in
      let U = stick (m * n * 2 ^ lift f) (i + start f - x) in
      let W = stick (q * 2 ^ lift-c f) (x - (i + start f)) in
      er
      ∙ ap (λ (z : ℕ). sum f s (z * 2 ^ e) t (v * 2 ^ e) den) eu
      ∙ ap (λ (z : ℕ). sum f s (U * 2 ^ e) t (z * 2 ^ e) den) ev
      ∙ ap (λ (z : ℕ). sum f s (U * 2 ^ z) t (W * 2 ^ z) den) ee
      ∙ ap (λ (z : ℕ). sum f s (stick (m * n * 2 ^ lift f) (i + start f - z) * 2 ^ max z (i + start f)) t (stick (q * 2 ^ lift-c f) (z - (i + start f)) * 2 ^ max z (i + start f)) den) ex
      ∙ sym (fma-patterns f a b c fa fb fc m j n k q i em ej en ek eq ei)

-- ---- a finite value and its pattern
pub pattern-finite : (f : Format) (x : Float) → T (fits f x) → T (finite x) → T (finite (of_bits f (to_bits f x)))
pattern-finite f x h k = subst (λ (z : Float). T (finite z)) (sym (of_bits-to_bits f x h)) k

pub fma-of-patterns : (f : Format) (x y z r : Float) → T (fits f x) → T (fits f y) → T (fits f z)
    → r ≡ fma f (of_bits f (to_bits f x)) (of_bits f (to_bits f y)) (of_bits f (to_bits f z)) → r ≡ fma f x y z
fma-of-patterns f x y z r hx hy hz e =
    e
    ∙ ap (λ (w : Float). fma f w (of_bits f (to_bits f y)) (of_bits f (to_bits f z))) (of_bits-to_bits f x hx)
    ∙ ap (λ (w : Float). fma f x w (of_bits f (to_bits f z))) (of_bits-to_bits f y hy)
    ∙ ap (λ (w : Float). fma f x y w) (of_bits-to_bits f z hz)

pub factor-none : (m n : ℕ) → (m ≡ 0 → ⊥) → (n ≡ 0 → ⊥) → m * n ≡ 0 → ⊥
factor-none m n a b e =
    elim (eq-zero-or-pos m) [ inl x ↦ a x | inr x ↦ elim (eq-zero-or-pos n) [ inl y ↦ b y | inr y ↦ none (m * n) (mul-pos x y) e ] ]
  where
    none : (x : ℕ) → 0 < x → x ≡ 0 → ⊥
    none x p q = omega arith

-- ---- a number that stands for another, rounded
pub round-of-sticky : (f : Format) (s : Bool) (a m k d : ℕ) → 2 ^ 62 ≤ m → m < 2 ^ 63 → Sticky m a (2 ^ k)
    → of_bits f (cond s (top f) 0 + min (pattern m k (63 - prec f) d) (ones f * hid f)) ≡ round f s a (2 ^ (d + low f))
round-of-sticky f s a m k d lo hi st =
    sym (round-sticky f s m a k d st (inl (le_trans (pow_mono {i = prec f + 1} {j = 62} (fits-62 f)) lo)) ∙ round-63 f s m k d lo hi)
  where
    fits-62 : (f : Format) → prec f + 1 ≤ 62
    fits-62 binary32 = omega arith
    fits-62 binary64 = omega arith
