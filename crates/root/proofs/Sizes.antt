-- The root on sizes in units of the format's smallest value, of which 1.0 has `U f`: it is nearer to the root, by squares, than any other number that the format keeps. Its order and its bounds follow from that alone.
-- Once for any format. Assumes nothing.
use Rattle.std.proofs.Common.{◌≡◌, ℕ, zero, suc, ◌+◌, ◌*◌, ◌/◌, ◌%◌, ◌^◌, ◌<◌, ◌≤◌, true, false, T, sym, refl, ap, ◌∙◌, subst, inl, inr, true≢false, le_trans, le_of_eq, lt_of_lt_of_le, lt_of_le_of_lt, mul-le-mul_right, mul_assoc, eq-or-lt_of_le, mul-le-mul_left, mul-pos, lt_of_not-le, zero-mul, mul-div_cancel, arith, pow_pos, pow_mono, pow-add}
use native.Mathlib.Nat.{pow-succ'}
use lib.Ieee.{Float, nan, inf, fin, Format, prec, low, up, down, round}
use lib.Ieee.Exact.{HasValue}
use lib.Ieee.Fits.{down_pos}
use lib.Ieee.Scale.{overflow}
use Rattle.rounding.proofs.Closest.{le-or-lt}
use Rattle.rounding.proofs.Snap.{snap, Rep, snap-is-rep, rep-pow, rep-small, rep-scale}
use Rattle.rounding.proofs.Nearest.{snap-not-above, snap-not-below}
use Rattle.rounding.proofs.Units.{gap, U, U-is, prec-pos}
use Rattle.rounding.proofs.Sizes.{At, at→value, round-to}
use Rattle.root.specs.Root.{whole_root, rooted, root}
use Rattle.root.proofs.Squares.{whole-root, root-le, sq-le}

-- ---- a number whose square has at most p digits and then zeros is such a number
even : (m y : ℕ) → m * m ≡ 4 * y → m ≡ m / 2 * 2
even m y e = go (m / 2) (m % 2) (omega arith) (omega arith)
  where
    odd : (h y : ℕ) → (2 * h + 1) * (2 * h + 1) ≡ 4 * y → ⊥
    odd h y e = omega arith

    go : (h r : ℕ) → r < 2 → m ≡ 2 * h + r → m ≡ h * 2
    go h zero l i = omega arith
    go h (suc zero) l i = absurd (odd h y (subst (λ (z : ℕ). z * z ≡ 4 * y) i e))
    go h (suc (suc r)) l i = absurd (omega arith)

few : (p n m : ℕ) → 0 < p → n < 2 ^ p → m * m ≤ 2 * n → m < 2 ^ p
few p n m P h l = lt_of_not-le (λ (g : 2 ^ p ≤ m). clash (2 ^ p) h (pow_mono {i = 1} {j = p} P) (sq-le (2 ^ p) m g))
  where
    clash : (w : ℕ) → n < w → 2 ≤ w → w * w ≤ m * m → ⊥
    clash w h a b = let c = mul-le-mul_right w a in omega arith

square-rep : (p n k m : ℕ) → 0 < p → n < 2 ^ p → m * m ≡ n * 2 ^ k → Rep p m
square-rep p n zero m P h e = rep-small p m (few p n m P h (omega arith))
square-rep p n (suc zero) m P h e = rep-small p m (few p n m P h (omega arith))
square-rep p n (suc (suc k)) m P h e =
    let y = n * 2 ^ k in
    let f : m * m ≡ 4 * y = e ∙ four (2 ^ k) (2 ^ suc (suc k)) (pow-succ' 2 (suc k) ∙ ap (λ (z : ℕ). 2 * z) (pow-succ' 2 k)) in
    let d : m ≡ m / 2 * 2 = even m y f in
    subst (λ (z : ℕ). Rep p z) (sym d) (rep-scale p (m / 2) 1 (square-rep p n k (m / 2) P h (quarter (m / 2) y (subst (λ (z : ℕ). z * z ≡ 4 * y) d f))))
  where
    four : (t w : ℕ) → w ≡ 2 * (2 * t) → n * w ≡ 4 * (n * t)
    four t w i = omega (arith, ap (λ (z : ℕ). n * z) i)

    quarter : (v y : ℕ) → v * 2 * (v * 2) ≡ 4 * y → v * v ≡ y
    quarter v y i = omega arith

-- ---- r is nearer to the root of a * U f than any other u that the format keeps: the root lies on r's side of the middle of r and u, doubled and squared
pub record NearestSize (f : Format) (a r : ℕ) : Type 0 where
  pub smaller : (u : ℕ) → Rep (prec f) u → u < r → (u + r) * (u + r) < 4 * (a * U f)
  pub larger : (u : ℕ) → Rep (prec f) u → r < u → 4 * (a * U f) < (u + r) * (u + r)

-- it grows with a
pub nearest-mono : (f : Format) (a b r s : ℕ) → Rep (prec f) r → Rep (prec f) s → NearestSize f a r → NearestSize f b s → a ≤ b → r ≤ s
nearest-mono f a b r s hr hs p q l = elim (le-or-lt r s) [ inl k ↦ k | inr k ↦ absurd (clash (mul-le-mul_right (U f) l) (p.smaller s hs k) (q.larger r hr k)) ]
  where
    clash : a * U f ≤ b * U f → (s + r) * (s + r) < 4 * (a * U f) → 4 * (b * U f) < (r + s) * (r + s) → ⊥
    clash x y z = omega arith

module _ (f : Format) (a r : ℕ) (n : NearestSize f a r) where
  -- it lies above or below each m that the format keeps as the root does, or is m
  pub nearest-least : (m : ℕ) → Rep (prec f) m → m * m ≤ a * U f → m ≤ r
  nearest-least m rep h = elim (le-or-lt m r) [ inl k ↦ k | inr k ↦ absurd (clash (n.larger m rep k) (sq-le (m + r) (2 * m) (omega arith))) ]
    where
      clash : 4 * (a * U f) < (m + r) * (m + r) → (m + r) * (m + r) ≤ 2 * m * (2 * m) → ⊥
      clash x y = omega arith

  pub nearest-most : (m : ℕ) → Rep (prec f) m → a * U f ≤ m * m → r ≤ m
  nearest-most m rep h = elim (le-or-lt r m) [ inl k ↦ k | inr k ↦ absurd (clash (n.smaller m rep k) (sq-le (2 * m) (m + r) (omega arith))) ]
    where
      clash : (m + r) * (m + r) < 4 * (a * U f) → 2 * m * (2 * m) ≤ (m + r) * (m + r) → ⊥
      clash x y = omega arith

-- ---- the root of a units, in units
unfoldable pub root_size : Format → ℕ → ℕ
root_size f a = snap (prec f) (2 * whole_root (a * (4 * U f)) + 1) 4

pub root-rep : (f : Format) (a : ℕ) → Rep (prec f) (root_size f a)
unfolding root_size
root-rep f a = snap-is-rep (prec f) (2 * whole_root (a * (4 * U f)) + 1) 4 (prec-pos f)

module _ (f : Format) (a : ℕ) (rep : Rep (prec f) a) where
  -- the middle of it and a smaller u is at most the whole part of the root in half units
  below : (u : ℕ) → Rep (prec f) u → u < root_size f a → u + root_size f a ≤ whole_root (a * (4 * U f))
  unfolding root_size
  below u ru h = let l = snap-not-above (prec f) (2 * whole_root (a * (4 * U f)) + 1) 4 u (prec-pos f) (omega arith) ru h in omega arith

  -- a root that is whole is no such middle: the format keeps it
  own : (v : ℕ) → v * v ≡ a * U f → root_size f a ≤ v
  own v e = elim (le-or-lt (root_size f a) v) [ inl k ↦ k | inr k ↦ clash (below v v-rep k) (root-le (whole_root (a * (4 * U f))) (2 * v) (lt_of_le_of_lt (whole-root (a * (4 * U f))).most (over (U f) e))) ]
    where
      v-rep : Rep (prec f) v
      v-rep = square-rep (prec f) rep.digits (rep.shift + (prec f + gap f)) v (prec-pos f) rep.few (e ∙ ap (λ (z : ℕ). z * U f) rep.is ∙ mul_assoc rep.digits (2 ^ rep.shift) (U f) ∙ ap (λ (z : ℕ). rep.digits * z) (sym (pow-add 2 rep.shift (prec f + gap f))))

      over : (w : ℕ) → v * v ≡ a * w → a * (4 * w) < (2 * v + 1) * (2 * v + 1)
      over w i = omega arith

      clash : v + root_size f a ≤ whole_root (a * (4 * U f)) → whole_root (a * (4 * U f)) ≤ 2 * v → root_size f a ≤ v
      clash x y = omega arith

  four : a * (4 * U f) ≡ 4 * (a * U f)
  four = omega arith

  less : (u : ℕ) → Rep (prec f) u → u < root_size f a → (u + root_size f a) * (u + root_size f a) < 4 * (a * U f)
  less u ru h = elim (eq-or-lt_of_le (le_trans (sq-le (u + root_size f a) (whole_root (a * (4 * U f))) (below u ru h)) (le_trans (whole-root (a * (4 * U f))).most (le_of_eq four)))) [
    | inl e ↦
        let v = (u + root_size f a) / 2 in
        let d : u + root_size f a ≡ v * 2 = even (u + root_size f a) (a * U f) e in
        absurd (between v d (own v (half v (subst (λ (z : ℕ). z * z ≡ 4 * (a * U f)) d e))) h)
    | inr l ↦ l
  ]
    where
      half : (v : ℕ) → v * 2 * (v * 2) ≡ 4 * (a * U f) → v * v ≡ a * U f
      half v e = omega arith

      between : (v : ℕ) → u + root_size f a ≡ v * 2 → root_size f a ≤ v → u < root_size f a → ⊥
      between v d l h = omega arith

  more : (u : ℕ) → Rep (prec f) u → root_size f a < u → 4 * (a * U f) < (u + root_size f a) * (u + root_size f a)
  unfolding root_size
  more u ru h =
      let R = whole_root (a * (4 * U f)) in
      let m = snap-not-below (prec f) (2 * R + 1) 4 u (prec-pos f) (omega arith) ru h in
      lt_of_le_of_lt (le_of_eq (sym four)) (lt_of_lt_of_le (whole-root (a * (4 * U f))).next (sq-le (R + 1) (u + root_size f a) (omega arith)))

  pub root-nearest : NearestSize f a (root_size f a)
  root-nearest = record { smaller = less; larger = more }

  -- ---- above zero it is above zero; from 1 up it lies between 1 and a; and the root of at most 4 ^ k is at most 2 ^ k
  pub root-some : 0 < a → 0 < root_size f a
  root-some h = nearest-least f a (root_size f a) root-nearest 1 (rep-pow (prec f) 0 (prec-pos f)) (mul-pos h (pow_pos (prec f + gap f)))

  pub root-least : U f ≤ a → U f ≤ root_size f a
  root-least h = nearest-least f a (root_size f a) root-nearest (U f) (rep-pow (prec f) (prec f + gap f) (prec-pos f)) (mul-le-mul_right (U f) h)

  pub root-most : U f ≤ a → root_size f a ≤ a
  root-most h = nearest-most f a (root_size f a) root-nearest a rep (mul-le-mul_left a h)

  pub root-power : (k : ℕ) → a ≤ 2 ^ (k + k) * U f → root_size f a ≤ 2 ^ k * U f
  root-power k h =
      nearest-most f a (root_size f a) root-nearest (2 ^ k * U f) (subst (λ (z : ℕ). Rep (prec f) z) (pow-add 2 k (prec f + gap f)) (rep-pow (prec f) (k + (prec f + gap f)) (prec-pos f)))
      (le_trans (mul-le-mul_right (U f) h) (le_of_eq (squares (2 ^ (k + k)) (2 ^ k) (U f) (pow-add 2 k k))))
    where
      squares : (w x y : ℕ) → w ≡ x * x → w * y * y ≡ x * y * (x * y)
      squares w x y e = omega (arith, ap (λ (z : ℕ). z * y * y) e)

-- ---- the root of a float of a units, which is above zero
pub root-units : (f : Format) (x : Float) (a : ℕ) → HasValue x false a (2 ^ low f) → 0 < a → root f x ≡ round f false (2 * whole_root (a * 2 ^ (2 + low f)) + 1) (2 ^ (2 + low f))
unfolding root rooted
root-units f nan a h p = absurd h
root-units f (inf s) a h p = absurd h
root-units f (fin s zero e) a h p = absurd (no a (down e) p (down_pos e) (sym h.1 ∙ simp (zero-mul)))
  where
    no : (x y : ℕ) → 0 < x → 0 < y → x * y ≡ 0 → ⊥
    no x y a b e = let k = mul-pos a b in omega arith
root-units f (fin true (suc m) e) a h p = absurd (true≢false h.0)
root-units f (fin false (suc m) e) a h p =
    ap (λ (x : ℕ). round f false (2 * whole_root x + 1) (2 ^ (2 + low f))) (ap (λ (x : ℕ). x / down e) (scaled (suc m * up e) (down e) h.1) ∙ mul-div_cancel (a * 2 ^ (2 + low f)) (down_pos e))
  where
    four : (k : ℕ) → 4 ^ k ≡ 2 ^ k * 2 ^ k
    four zero = refl
    four (suc k) = pow-succ' 4 k ∙ ap (λ (z : ℕ). 4 * z) (four k) ∙ twice (2 ^ k) ∙ ap (λ (z : ℕ). z * z) (sym (pow-succ' 2 k))
      where
        twice : (u : ℕ) → 4 * (u * u) ≡ 2 * u * (2 * u)
        twice u = omega arith

    scaled : (x d : ℕ) → x * 2 ^ low f ≡ a * d → x * 4 ^ suc (low f) ≡ a * 2 ^ (2 + low f) * d
    scaled x d e =
        ap (λ (z : ℕ). x * z) (pow-succ' 4 (low f) ∙ ap (λ (z : ℕ). 4 * z) (four (low f)))
        ∙ go (2 ^ low f) (ap (λ (z : ℕ). z * 2 ^ low f) e)
        ∙ ap (λ (z : ℕ). a * z * d) (sym (pow-add 2 2 (low f)))
      where
        go : (u : ℕ) → x * u * u ≡ a * d * u → x * (4 * (u * u)) ≡ a * (4 * u) * d
        go u k = omega arith

pub root-at : (f : Format) (x : Float) (a : ℕ) → At f x a → 0 < a → root_size f a < overflow f → At f (root f x) (root_size f a)
unfolding root_size
root-at f x a h p o =
    let n = 2 * whole_root (a * (4 * U f)) + 1 in
    let c : 2 ^ (2 + low f) ≡ 4 * U f = pow-add 2 2 (low f) ∙ ap (λ (z : ℕ). 4 * z) (U-is f) in
    let v : HasValue x false a (2 ^ low f) = rw (U-is f) (at→value f x a h p) in
    let e : root f x ≡ round f false n (4 * U f) = root-units f x a v p ∙ ap (λ (z : ℕ). round f false (2 * whole_root (a * z) + 1) z) c in
    subst (λ (z : Float). At f z (root_size f a)) (sym e) (round-to f false n (4 * U f) n 4 (mul-pos (pow_pos 2) (pow_pos (prec f + gap f))) (pow_pos 2) (omega arith) (λ (t : T false). absurd t) o)
