-- `snap p n d` is the nearest to n / d: the fraction lies on its side of the middle between it and any other number of at most p digits and then zeros. Nothing here is about floats.
-- Assumes nothing.
use mathlib.Core.Path.{◌≡◌, sym, ap, subst}
use mathlib.Core.Logic.{inl, inr}
use Prim.Native.Nat.{ℕ, suc, ◌+◌, ◌-◌, ◌*◌, ◌^◌, ◌≤◌, ◌<◌}
use native.Mathlib.Nat.{le_trans, le_of_eq, le_of_lt, lt_of_le_of_lt, lt_of_not-le, not-le_of_lt, eq-zero-or-pos, eq-or-lt_of_le, mul-le-mul_right, mul-pos, suc-mul, lt_of_mul-lt-mul_right, le-div_iff_mul-le}
use native.Mathlib.Omega.{arith}
use lib.Pow.{pow-add, pow_pos, pow_mono, shl_lt}
use lib.Ieee.Order.{drop, kept}
use Rattle.rounding.proofs.Closest.{le-or-lt}
use Rattle.rounding.proofs.Snap.{snap, Rep, closest-half, in_use, kept-ge, rep-part}

-- from 2 ^ (p - 1 + k) up, a number of at most p digits is a multiple of 2 ^ k
rep-multiple : (p u k : ℕ) → 0 < p → Rep p u → 2 ^ (p - 1 + k) ≤ u → (v : ℕ) × (u ≡ v * 2 ^ k)
rep-multiple p u k P r h =
    let s = r.shift in
    let l : 2 ^ (p - 1 + k) < 2 ^ (p + s) = lt_of_le_of_lt h (subst (λ (x : ℕ). x < 2 ^ (p + s)) (sym r.is) (shl_lt p s r.few)) in
    let g : p - 1 + k < p + s = lt_of_not-le (λ (g : p + s ≤ p - 1 + k). not-le_of_lt l (pow_mono g)) in
    (r.digits * 2 ^ (s - k), rep-part p u k r (omega arith))

-- two multiples of s
apart : (v w s : ℕ) → v * s < w * s → v * s + s ≤ w * s
apart v w s h = let l : suc v ≤ w = lt_of_mul-lt-mul_right s h in let m = mul-le-mul_right s l in omega arith

module _ (p n d u : ℕ) (P : 0 < p) (D : 0 < d) (rep : Rep p u) where
  -- a smaller u
  pub snap-not-above : u < snap p n d → (u + snap p n d) * d ≤ 2 * n
  unfolding snap
  snap-not-above h =
      let k = drop p n d in
      let w = kept p n d in
      let s = 2 ^ k in
      let half = closest-half n (d * s) (mul-pos D (pow_pos k)) in
      elim (eq-zero-or-pos k) [
        | inl z ↦ step w s u half.0 (let one : s ≡ 1 = ap (λ (x : ℕ). 2 ^ x) z in omega arith)
        | inr K ↦
            let M = 2 ^ (p - 1) * s in
            let least : 2 ^ (p - 1) ≤ w = kept-ge p n d P K in
            let reach : M * d ≤ n = (le-div_iff_mul-le D).0 (in_use p n d P K) in
            elim (le-or-lt M u) [
              | inl g ↦
                  let v = rep-multiple p u k P rep (subst (λ (x : ℕ). x ≤ u) (sym (pow-add 2 (p - 1) k)) g) in
                  step w s u half.0 (subst (λ (x : ℕ). x + s ≤ w * s) (sym v.1) (apart v.0 w s (subst (λ (x : ℕ). x < w * s) v.1 h)))
              | inr g ↦ elim (eq-or-lt_of_le least) [
                | inl e ↦ under w s (subst (λ (x : ℕ). x * s * d ≤ n) e reach) h
                | inr l ↦ step w s u half.0 (le_trans (lower u M s g) (le_trans (le_of_eq (sym (suc-mul (2 ^ (p - 1)) s))) (mul-le-mul_right s l)))
              ]
            ]
      ]
    where
      step : (w s x : ℕ) → w * (d * s) * 2 ≤ n * 2 + d * s → x + s ≤ w * s → (x + w * s) * d ≤ 2 * n
      step w s x a b = let c = mul-le-mul_right d b in omega arith

      under : (w s : ℕ) → w * s * d ≤ n → u < w * s → (u + w * s) * d ≤ 2 * n
      under w s a b = let c = mul-le-mul_right d (le_of_lt b) in omega arith

      lower : (u M s : ℕ) → u < M → u + s ≤ M + s
      lower u M s h = omega arith

  -- a larger u
  pub snap-not-below : snap p n d < u → 2 * n ≤ (u + snap p n d) * d
  unfolding snap
  snap-not-below h =
      let k = drop p n d in
      let w = kept p n d in
      let s = 2 ^ k in
      let half = closest-half n (d * s) (mul-pos D (pow_pos k)) in
      elim (eq-zero-or-pos k) [
        | inl z ↦ step w s half.1 (let one : s ≡ 1 = ap (λ (x : ℕ). 2 ^ x) z in omega arith)
        | inr K ↦
            let v = rep-multiple p u k P rep (le_trans (le_of_eq (pow-add 2 (p - 1) k)) (le_trans (mul-le-mul_right s (kept-ge p n d P K)) (le_of_lt h))) in
            step w s half.1 (subst (λ (x : ℕ). w * s + s ≤ x) (sym v.1) (apart w v.0 s (subst (λ (x : ℕ). w * s < x) v.1 h)))
      ]
    where
      step : (w s : ℕ) → n * 2 ≤ w * (d * s) * 2 + d * s → w * s + s ≤ u → 2 * n ≤ (u + w * s) * d
      step w s a b = let c = mul-le-mul_right d b in omega arith
