-- A finite float's size in units of its format's smallest value: `Size f x n`. What fits has such a size, of at most prec digits; and `round`, and so each operation, is `snap` on sizes.
-- What fits is its own rounding, and a rounding keeps its side of what fits. Assumes nothing.
use mathlib.Core.Path.{◌≡◌, refl, sym, ap, ◌∙◌, subst}
use Prim.Native.Nat.{ℕ, zero, suc, ◌+◌, ◌-◌, ◌*◌, ◌/◌, ◌%◌, ◌^◌, ◌≤◌, ◌<◌}
use native.Mathlib.Nat.{lt_of_not-le, not-le_of_lt, le_of_suc-le-suc, zero-mul, mul-one, mul_assoc, mul-lt-mul_of_pos_right, lt_of_mul-lt-mul_right, eq_of_mul-eq-mul_right}
use native.Mathlib.Omega.{arith}
use mathlib.Core.Bool.{Bool, ◌&&◌, cond}
use lib.IntN.{ℤ, pos, negsuc}
use lib.Dec.{T, leb, ltb, eqb, leb→le, ltb→lt}
use lib.Pow.{pow-add, pow_pos, pow-lt}
use lib.Ieee.{Float, nan, inf, fin, Format, binary32, binary64, prec, emax, low, up, down, size, hid, top, round, fits, to_bits, of_bits}
use lib.Ieee.Digits.{Equals}
use lib.Ieee.Fits.{and_l, and_r, down_pos, round_is, round-fits, two, two-le_pos}
use lib.Ieee.Exact.{HasValue, units_val, round_exact}
use lib.Ieee.Nearest.{div_same}
use lib.Ieee.Order.{drop, kept}
use lib.Ieee.Scale.{overflow}
use lib.Ieee.Bits.{of_bits-to_bits}
use Rattle.rounding.proofs.Snap.{snap, snap-same, Rep, pow-part}

-- ---- the formats: low is prec and a gap
abbrev pub gap : Format → ℕ
gap binary32 = 125
gap binary64 = 1021

pub low-is : (f : Format) → low f ≡ prec f + gap f
low-is binary32 = refl
low-is binary64 = refl

pub prec-pos : (f : Format) → 0 < prec f
prec-pos f = two-le_pos (prec f) (two f)

-- how many units 1.0 is
abbrev pub U : Format → ℕ
U f = 2 ^ (prec f + gap f)

pub U-is : (f : Format) → 2 ^ low f ≡ 2 ^ (prec f + gap f)
U-is f = ap (λ (x : ℕ). 2 ^ x) (low-is f)

abbrev pub Size : Format → Float → ℕ → Type 0
Size f x n = Equals x n (2 ^ (prec f + gap f))

pub round-raw : (f : Format) (s : Bool) (a c : ℕ) → snap (prec f) (a * 2 ^ low f) c < overflow f → HasValue (round f s a c) s (snap (prec f) (a * 2 ^ low f) c) (2 ^ low f)
unfolding snap
round-raw f s a c h = subst (λ (x : Float). HasValue x s (kept (prec f) (a * 2 ^ low f) c * 2 ^ drop (prec f) (a * 2 ^ low f) c) (2 ^ low f)) (sym (round_is f s a c)) (units_val f s (kept (prec f) (a * 2 ^ low f) c) (drop (prec f) (a * 2 ^ low f) c) h)

-- ---- `round` on sizes, by any fraction n / d of units that its own equals
pub round-at : (f : Format) (s : Bool) (a c n d : ℕ) → 0 < c → 0 < d → a * U f * d ≡ n * c → snap (prec f) n d < overflow f → HasValue (round f s a c) s (snap (prec f) n d) (U f)
round-at f s a c n d C D e h =
    let p = prec f in
    let w : snap p (a * 2 ^ low f) c ≡ snap p n d = snap-same p (a * 2 ^ low f) c n d (prec-pos f) C D (ap (λ (z : ℕ). a * z * d) (U-is f) ∙ e) in
    rw (← U-is f) (rw (← w) (round-raw f s a c (rw w h)))

-- ---- what fits
pow-le : (i j : ℕ) → 2 ^ i ≤ 2 ^ j → i ≤ j
pow-le i j h = le_of_suc-le-suc (lt_of_not-le (λ (g : suc j ≤ i). not-le_of_lt (pow-lt g) h))

pub record Held (f : Format) (m : ℕ) (e : ℤ) : Type 0 where
  pub at : ℕ
  pub rep : Rep (prec f) at
  pub under : at < overflow f
  pub is : m * up e * 2 ^ low f ≡ at * down e

held_of : (f : Format) (m : ℕ) (e : ℤ) (n : ℕ) → Rep (prec f) n → m * up e * 2 ^ low f ≡ n * down e → m * up e < 2 ^ suc (emax f) * down e → Held f m e
held_of f m e n r i t = record { at = n; rep = r; under = rw (pow-add 2 (low f) (suc (emax f))) (lt_of_mul-lt-mul_right (down e) (below (2 ^ low f) (2 ^ suc (emax f)) i (mul-lt-mul_of_pos_right t (pow_pos (low f))))); is = i }
  where
    below : (l x : ℕ) → m * up e * l ≡ n * down e → m * up e * l < x * down e * l → n * down e < l * x * down e
    below l x i h = omega arith

rep-of : (p m k : ℕ) → m < 2 ^ p → Rep p (m * 2 ^ k)
rep-of p m k h = record { digits = m; shift = k; few = h; is = refl }

held_at : (f : Format) (m : ℕ) (e : ℤ) → m < 2 ^ prec f → down e ≤ 2 ^ low f → m * up e < 2 ^ suc (emax f) * down e → Held f m e
held_at f m (pos k) a b t = held_of f m (pos k) (m * 2 ^ (k + low f)) (rep-of (prec f) m (k + low f) a) (mul_assoc m (2 ^ k) (2 ^ low f) ∙ ap (λ (x : ℕ). m * x) (sym (pow-add 2 k (low f))) ∙ sym (mul-one (m * 2 ^ (k + low f)))) t
held_at f m (negsuc k) a b t = held_of f m (negsuc k) (m * 2 ^ (low f - suc k)) (rep-of (prec f) m (low f - suc k) a) (ap (λ (x : ℕ). x * 2 ^ low f) (mul-one m) ∙ ap (λ (x : ℕ). m * x) (sym (pow-part (low f) (suc k) (pow-le (suc k) (low f) b))) ∙ sym (mul_assoc m (2 ^ (low f - suc k)) (2 ^ suc k))) t

pub held : (f : Format) (s : Bool) (m : ℕ) (e : ℤ) → T (fits f (fin s m e)) → Held f m e
unfolding fits
held f s zero e h = record { at = 0; rep = rep-of (prec f) 0 0 (pow_pos (prec f)); under = pow_pos (low f + suc (emax f)); is = simp zero-mul }
held f s (suc m) e h =
    let a : Bool = eqb (suc m % 2) 1 in
    let b : Bool = ltb (suc m) (2 ^ prec f) in
    let c : Bool = leb (down e) (2 ^ low f) in
    let d : Bool = ltb (suc m * up e) (2 ^ suc (emax f) * down e) in
    let abc : T (a && b && c) = and_l (a && b && c) d h in
    held_at f (suc m) e (ltb→lt (suc m) (2 ^ prec f) (and_r a b (and_l (a && b) c abc))) (leb→le (down e) (2 ^ low f) (and_r (a && b) c abc)) (ltb→lt (suc m * up e) (2 ^ suc (emax f) * down e) (and_r (a && b && c) d h))

-- ---- two values that fit and are the same number with the same sign are one: they have the same bits
pub to_bits_is : (f : Format) (s : Bool) (m : ℕ) (e : ℤ) (n : ℕ) → m * up e * 2 ^ low f / down e ≡ n → to_bits f (fin s m e) ≡ cond s (top f) 0 + (size n - prec f) * hid f + n / 2 ^ (size n - prec f)
unfolding to_bits
to_bits_is f s m e n h = ap (λ (n : ℕ). cond s (top f) 0 + (size n - prec f) * hid f + n / 2 ^ (size n - prec f)) h

same-cross : (x u y v a c : ℕ) → 0 < c → x * c ≡ a * u → y * c ≡ a * v → x * v ≡ y * u
same-cross x u y v a c C h k = eq_of_mul-eq-mul_right c C (x * v) (y * u) (omega (arith, ap (λ (z : ℕ). z * v) h, ap (λ (z : ℕ). z * u) k))

pub unique : (f : Format) (x y : Float) (s : Bool) (a c : ℕ) → 0 < c → T (fits f x) → T (fits f y) → HasValue x s a c → HasValue y s a c → x ≡ y
unique f nan y s a c C p q h k = absurd h
unique f (inf t) y s a c C p q h k = absurd h
unique f (fin t m e) nan s a c C p q h k = absurd k
unique f (fin t m e) (inf u) s a c C p q h k = absurd k
unique f (fin t m e) (fin u n d) s a c C p q h k =
    let l = 2 ^ low f in
    let w : m * up e * l / down e ≡ n * up d * l / down d = div_same (m * up e * l) (down e) (n * up d * l) (down d) (down_pos e) (down_pos d) (omega (arith, ap (λ (z : ℕ). z * l) (same-cross (m * up e) (down e) (n * up d) (down d) a c C h.1 k.1))) in
    let b : to_bits f (fin t m e) ≡ to_bits f (fin u n d) = to_bits_is f t m e (n * up d * l / down d) w ∙ ap (λ (r : Bool). cond r (top f) 0 + (size (n * up d * l / down d) - prec f) * hid f + n * up d * l / down d / 2 ^ (size (n * up d * l / down d) - prec f)) (h.0 ∙ sym k.0) ∙ sym (to_bits_is f u n d (n * up d * l / down d) refl) in
    sym (of_bits-to_bits f (fin t m e) p) ∙ ap (λ (z : ℕ). of_bits f z) b ∙ of_bits-to_bits f (fin u n d) q

-- ---- what fits is its own rounding
pub round-own : (f : Format) (s : Bool) (m : ℕ) (e : ℤ) → T (fits f (fin s m e)) → round f s (m * up e) (down e) ≡ fin s m e
round-own f s m e h =
    let g = held f s m e h in
    let i : g.at ≡ g.rep.digits * 2 ^ g.rep.shift = g.rep.is in
    unique f (round f s (m * up e) (down e)) (fin s m e) s (m * up e) (down e) (down_pos e) (round-fits f s (m * up e) (down e)) h
    (round_exact f s (m * up e) (down e) g.rep.digits g.rep.shift (down_pos e) g.rep.few (rw i at g.under) (g.is ∙ ap (λ (x : ℕ). x * down e) i))
    (refl, refl)
