-- `whole_root n` is the largest whole number whose square is at most n; and the nearest whole number to a root, by products of neighbours.
-- Assumes nothing.
use Rattle.std.proofs.Common.{◌≡◌, ℕ, zero, suc, ◌+◌, ◌-◌, ◌*◌, ◌/◌, ◌^◌, ◌<◌, ◌≤◌, Bool, true, false, cond, not, T, leb, ◌∙◌, le_of_eq, lt_of_lt_of_le, mul_comm, div-lt_iff_lt-mul, mul-le-mul, lt_of_not-le, not-le_of_lt, arith, leb→le}
use native.Mathlib.Nat.{pow-succ'}
use lib.Dec.{nleb→lt}
use lib.Ieee.{size}
use lib.Ieee.Digits.{size-lt}
use Rattle.root.specs.Root.{digits, whole_root}
use Rattle.root.specs.Steps.{NearestWhole}

-- ---- squares
pub sq-le : (a b : ℕ) → a ≤ b → a * a ≤ b * b
sq-le a b h = mul-le-mul h h

-- the order of two numbers, from that of their squares
pub root-lt : (a b : ℕ) → a * a < b * b → a < b
root-lt a b h = lt_of_not-le (λ (g : b ≤ a). not-le_of_lt h (sq-le b a g))

pub root-le : (a b : ℕ) → a * a < (b + 1) * (b + 1) → a ≤ b
root-le a b h = let l = root-lt a (b + 1) h in omega arith

-- ---- the whole part of a root
pub record Whole (n r : ℕ) : Type 0 where
  pub most : r * r ≤ n
  pub next : n < (r + 1) * (r + 1)

-- from the root s of n / 4
step : (n s : ℕ) → Whole (n / 4) s → Whole n (cond (leb ((2 * s + 1) * (2 * s + 1)) n) (2 * s + 1) (2 * s))
step n s w = go (leb ((2 * s + 1) * (2 * s + 1)) n) (leb→le ((2 * s + 1) * (2 * s + 1)) n) (nleb→lt ((2 * s + 1) * (2 * s + 1)) n)
  where
    a : s * s ≤ n / 4
    a = w.most

    b : n / 4 < (s + 1) * (s + 1)
    b = w.next

    go : (t : Bool) → (T t → (2 * s + 1) * (2 * s + 1) ≤ n) → (T (not t) → n < (2 * s + 1) * (2 * s + 1)) → Whole n (cond t (2 * s + 1) (2 * s))
    go true h k = record { most = h tt; next = omega (arith, a, b) }
    go false h k = record { most = omega (arith, a, b); next = k tt }

digits-whole : (d n : ℕ) → n < 4 ^ d → Whole n (digits d n)
unfolding digits
digits-whole zero n h = record { most = omega arith; next = omega arith }
digits-whole (suc d) n h = step n (digits d (n / 4)) (digits-whole d (n / 4) ((div-lt_iff_lt-mul (omega arith)).1 (lt_of_lt_of_le h (le_of_eq (pow-succ' 4 d ∙ mul_comm 4 (4 ^ d))))))

four : (k : ℕ) → 2 ^ k ≤ 4 ^ k
four zero = omega arith
four (suc k) = let h = four k in omega (arith, pow-succ' 2 k, pow-succ' 4 k)

pub whole-root : (n : ℕ) → Whole n (whole_root n)
unfolding whole_root
whole-root n = digits-whole (size n) n (lt_of_lt_of_le (size-lt n) (four (size n)))

-- ---- the nearest whole number, as the two loops of `nearest_root` find it
pub nearest-of : (n q : ℕ) → 0 < n → q * q < n + q → n ≤ q * q + q → NearestWhole n q
nearest-of n zero p a b = absurd (omega arith)
nearest-of n (suc q) p a b = record { some = omega arith; above = rw (up q) (omega arith); below = omega arith }
  where
    up : (x : ℕ) → 2 * suc x - 1 ≡ 2 * x + 1
    up x = omega arith

-- where q * q reaches n, q is not 0
pub some_left : (n q : ℕ) → 0 < n → n + q ≤ q * q → 0 < q
some_left n zero h k = absurd (omega arith)
some_left n (suc q) h k = omega arith

-- where q * q is below n, q is below 2 ^ 24
pub less-than-most : (n q : ℕ) → n < 281474976710656 → q * q < n → q < 16777216
less-than-most n q h k = lt_of_not-le (λ (g : 16777216 ≤ q). let l = sq-le 16777216 q g in omega arith)

-- one up
pub one_up : (n q : ℕ) → q * q + q < n → (q + 1) * (q + 1) < n + (q + 1)
one_up n q h = omega arith
