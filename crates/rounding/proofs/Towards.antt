-- c * s + (1 - c) * t on whole numbers of units, for any precision p. U, which is 2 ^ (p + j), stands for 1.0, so a value x is x * U units, and a product of two values is a * b / U units.
-- D c is 1 - c rounded. Assumes nothing.
use mathlib.Core.Path.{◌≡◌, sym, ap}
use mathlib.Core.Logic.{inl, inr}
use Prim.Native.Nat.{ℕ, ◌+◌, ◌-◌, ◌*◌, ◌^◌, ◌≤◌, ◌<◌}
use native.Mathlib.Nat.{le_trans, le_of_eq, le_of_lt, lt_of_le_of_lt, lt_of_not-le, eq-zero-or-pos, sub-add_cancel, mul-one, mul-le-mul_right, mul-lt-mul_of_pos_right, le_of_mul-le-mul_right}
use native.Mathlib.Omega.{arith}
use lib.Pow.{pow-add, pow_pos}
use Rattle.rounding.proofs.Snap.{snap, Rep, snap-mono, snap-rep, snap-below, snap-above, snap-err, snap-rel, snap-is-rep, rep-small, rep-pow, rep-gap, half_pow}
use Rattle.rounding.proofs.Closest.{le-or-lt}

module _ (p j : ℕ) (P : 0 < p) where
  U_pos : 0 < 2 ^ (p + j)
  U_pos = pow_pos (p + j)

  -- a value below 1 is below it by one part in 2 ^ p
  pub below_one : (s : ℕ) → Rep p s → s < 2 ^ (p + j) → s * 2 ^ p + 2 ^ (p + j) ≤ 2 ^ (p + j) * 2 ^ p
  below_one s r h = rw (pow-add 2 p j) (omega (arith, mul-le-mul_right (2 ^ p) (rep-gap p s j r h)))

  -- ---- closing
  pub closes : (c s : ℕ) → Rep p s → c ≤ 2 ^ (p + j) → snap p (c * s) (2 ^ (p + j)) ≤ s
  closes c s r h = snap-below p s (c * s) (2 ^ (p + j)) P r U_pos (omega (arith, mul-le-mul_right s h))

  pub closes-strictly : (c s : ℕ) → Rep p c → c < 2 ^ (p + j) → 2 ^ (p - 1) < s → snap p (c * s) (2 ^ (p + j)) < s
  closes-strictly c s r h g = elim (le-or-lt (2 ^ (p - 1) * 2 ^ (p + j)) (c * s)) [
    | inl a ↦ lt_of_not-le (λ (k : s ≤ snap p (c * s) (2 ^ (p + j))). clash (2 ^ (p + j)) (2 ^ p) (snap p (c * s) (2 ^ (p + j))) k (snap-rel p (c * s) (2 ^ (p + j)) P U_pos a).0 (below_one c r h) (mul-lt-mul_of_pos_right h (lt_of_le_of_lt (le_of_lt (pow_pos (p - 1))) g)))
    | inr a ↦ lt_of_le_of_lt (snap-below p (2 ^ (p - 1)) (c * s) (2 ^ (p + j)) P (rep-pow p (p - 1) P) U_pos (le_of_lt a)) g
  ]
    where
      clash : (u w t : ℕ) → s ≤ t → t * u * w ≤ c * s * w + c * s → c * w + u ≤ u * w → c * s < u * s → ⊥
      clash u w t k a b l = omega (arith, mul-le-mul_right (u * w) k, mul-le-mul_right s b)

  -- ---- 1 - c, rounded
  unfoldable pub D : ℕ → ℕ
  D c = snap p (2 ^ (p + j) - c) 1

  pub D-rep : (c : ℕ) → Rep p (D c)
  unfolding D
  D-rep c = snap-is-rep p (2 ^ (p + j) - c) 1 P

  -- c + D c is off 1 by half of the step below 1 at most
  pub D-near : (c : ℕ) → c ≤ 2 ^ (p + j) → (D c * 2 + c * 2 ≤ 2 ^ (p + j) * 2 + 2 ^ j) × (2 ^ (p + j) * 2 ≤ D c * 2 + c * 2 + 2 ^ j)
  unfolding D
  D-near c h = elim (eq-zero-or-pos c) [
    | inl z ↦
        let e : snap p (2 ^ (p + j) - c) 1 ≡ 2 ^ (p + j) = snap-rep p (2 ^ (p + j)) (2 ^ (p + j) - c) 1 (rep-pow p (p + j) P) (pow_pos 0) (omega (arith, z)) in
        (omega (arith, z, e), omega (arith, z, e))
    | inr k ↦
        let e = snap-err p (2 ^ (p + j) - c) 1 j (pow_pos 0) (omega (arith, k, h)) in
        (omega (arith, e.0, h), omega (arith, e.1, h))
  ]

  -- and D c is below 1 - c by one part in 2 ^ p at most
  pub D-rel : (c : ℕ) → (2 ^ (p + j) - c) * 2 ^ p ≤ D c * 2 ^ p + (2 ^ (p + j) - c)
  unfolding D
  D-rel c = go (2 ^ (p + j) - c)
    where
      go : (n : ℕ) → n * 2 ^ p ≤ snap p n 1 * 2 ^ p + n
      go n = elim (le-or-lt (2 ^ (p - 1)) n) [
        | inl a ↦ omega (arith, (snap-rel p n 1 P (pow_pos 0) (omega (arith, a))).1)
        | inr a ↦
            let e : snap p n 1 ≡ n = snap-rep p n n 1 (rep-small p n (omega (arith, a, half_pow p P))) (pow_pos 0) (sym (mul-one n)) in
            omega (arith, ap (λ (x : ℕ). x * 2 ^ p) e)
      ]

  -- ---- opening: c * s + (1 - c), rounded
  cancel : (n s u w x : ℕ) → 0 < w → n * w ≤ x * w + n → s * w + u ≤ u * w → n * s ≤ x * u
  cancel n s u w x W a b = le_of_mul-le-mul_right (omega (arith, mul-le-mul_right u a, mul-le-mul_right n b)) W

  regroup : (u c s x n : ℕ) → n + c ≡ u → n * s ≤ x * u → s * u ≤ c * s + x * u
  regroup u c s x n e k = omega (arith, ap (λ (z : ℕ). z * s) e)

  pub opens : (c s : ℕ) → c ≤ 2 ^ (p + j) → Rep p s → s < 2 ^ (p + j) → s ≤ snap p (c * s + D c * 2 ^ (p + j)) (2 ^ (p + j))
  opens c s h r l =
      snap-above p s (c * s + D c * 2 ^ (p + j)) (2 ^ (p + j)) P r U_pos
      (regroup (2 ^ (p + j)) c s (D c) (2 ^ (p + j) - c) (sub-add_cancel h) (cancel (2 ^ (p + j) - c) s (2 ^ (p + j)) (2 ^ p) (D c) (pow_pos p) (D-rel c) (below_one s r l)))

  -- ---- 1 and a little more, or a little less, rounds to 1: `top` and `bottom` are closed facts of a format. At 2 ^ t, for t = 0 and t = 6
  module _ (t : ℕ) (top : snap p (2 ^ t * (2 ^ (p + j) * 2 + 2 ^ j)) 2 ≡ 2 ^ t * 2 ^ (p + j)) where
    pub at_most : (x y : ℕ) → x ≤ 2 ^ t * y * 2 ^ (p + j) → y * 2 ≤ 2 ^ (p + j) * 2 + 2 ^ j → snap p x (2 ^ (p + j)) ≤ 2 ^ t * 2 ^ (p + j)
    at_most x y h k =
        le_trans (snap-mono p x (2 ^ (p + j)) (2 ^ t * (2 ^ (p + j) * 2 + 2 ^ j)) 2 P U_pos (pow_pos 1)
        (le_trans (mul-le-mul_right 2 h) (omega (arith, mul-le-mul_right (2 ^ t * 2 ^ (p + j)) k)))) (le_of_eq top)

    -- c * x + (1 - c), for an x up to 2 ^ t and 2 ^ t * (1 - c)
    pub opens-within : (c s q : ℕ) → c ≤ 2 ^ (p + j) → s ≤ 2 ^ t * 2 ^ (p + j) → q ≤ D c * 2 ^ t → snap p (c * s + q * 2 ^ (p + j)) (2 ^ (p + j)) ≤ 2 ^ t * 2 ^ (p + j)
    opens-within c s q h a b = at_most (c * s + q * 2 ^ (p + j)) (D c + c) (omega (arith, mul-le-mul_right c a, mul-le-mul_right (2 ^ (p + j)) b)) (omega (arith, (D-near c h).0))

    -- d * x + c, for a d that is 1 - c rounded
    pub mixes-within : (c s : ℕ) → c ≤ 2 ^ (p + j) → s ≤ 2 ^ t * 2 ^ (p + j) → snap p (D c * s + 2 ^ t * c * 2 ^ (p + j)) (2 ^ (p + j)) ≤ 2 ^ t * 2 ^ (p + j)
    mixes-within c s h a = at_most (D c * s + 2 ^ t * c * 2 ^ (p + j)) (D c + c) (omega (arith, mul-le-mul_right (D c) a)) (omega (arith, (D-near c h).0))

  pub stays_open : snap p (2 ^ (p + j) * 2 - 2 ^ j) 2 ≡ 2 ^ (p + j) → (c : ℕ) → c ≤ 2 ^ (p + j) → 2 ^ (p + j) ≤ snap p (c * 2 ^ (p + j) + D c * 2 ^ (p + j)) (2 ^ (p + j))
  stays_open bottom c h =
      le_trans (le_of_eq (sym bottom))
      (snap-mono p (2 ^ (p + j) * 2 - 2 ^ j) 2 (c * 2 ^ (p + j) + D c * 2 ^ (p + j)) (2 ^ (p + j)) P (pow_pos 1) U_pos
      (le_trans (mul-le-mul_right (2 ^ (p + j)) (less c (D c) (2 ^ (p + j)) (2 ^ j) (D-near c h).1)) (le_of_eq (regroup2 c (D c) (2 ^ (p + j))))))
    where
      less : (c d u g : ℕ) → u * 2 ≤ d * 2 + c * 2 + g → u * 2 - g ≤ (c + d) * 2
      less c d u g h = omega arith

      regroup2 : (c d u : ℕ) → (c + d) * 2 * u ≡ (c * u + d * u) * 2
      regroup2 c d u = omega arith
