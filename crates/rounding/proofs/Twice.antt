-- A number rounded to a wider format, and that to a narrower one: the same as rounding it once, unless the wider one's digits lie halfway between two of the narrower's and are not exact. Assumes nothing.
use mathlib.Core.Path.{◌≡◌, refl, sym, ap, ◌∙◌}
use mathlib.Core.Logic.{inl, inr}
use Prim.Native.Nat.{ℕ, zero, suc, ◌+◌, ◌-◌, ◌*◌, ◌/◌, ◌%◌, ◌^◌, ◌≤◌, ◌<◌}
use native.Mathlib.Nat.{le_trans, le_of_eq, lt_of_lt_of_le, mul_comm, mul_assoc, mul_left_comm, add-mul, suc-mul, one-mul, mul-pos, mul-le-mul_right, mod-lt, div-add-mod', div-lt_iff_lt-mul, le-div_iff_mul-le, pow-succ'}
use native.Mathlib.Omega.{arith}
use lib.Arith.{digits_div}
use lib.Pow.{pow-add, pow_pos, pow_mono, shr-shr}
use lib.Ieee.{Format, prec, size}
use lib.Ieee.Digits.{size-lt, size-le, size_reaches}
use lib.Ieee.Nearest.{closest, closest_same}
use Rattle.rounding.proofs.Closest.{le-or-lt, closest-down, closest-up}
use Rattle.rounding.proofs.Snap.{closest-half}
use Rattle.rounding.proofs.Round.{dropped}
use Rattle.rounding.proofs.Pattern.{size-gt}

-- ---- to a unit 2 * t times as large
module _ (a u t : ℕ) (u0 : 0 < u) (t0 : 0 < t) where
  coarse-at : (q m r : ℕ) → closest a u ≡ q → q ≡ m * (2 * t) + r → r < 2 * t → (r ≡ t → ⊥) → closest a (u * (2 * t)) ≡ (q + t) / (2 * t)
  coarse-at q m r c e l n =
      let w = closest-half a u u0 in
      let q-is : closest a u * u ≡ m * (t * u) * 2 + r * u = ap (λ (x : ℕ). x * u) (c ∙ e) ∙ add-mul (m * (2 * t)) r u ∙ ap (λ (x : ℕ). x + r * u) (shuffle m t u) in
      let b-is : u * (2 * t) ≡ 2 * (t * u) = double u t in
      let x-is : m * (u * (2 * t)) ≡ m * (t * u) * 2 = mul3 m u t in
      let u-le : u ≤ t * u = le_trans (le_of_eq (sym (one-mul u))) (mul-le-mul_right u t0) in
      elim (le-or-lt t r) [
        | inl h ↦
            let R : (t + 1) * u ≤ r * u = mul-le-mul_right u (omega arith) in
            let R' : (t + 1) * u ≡ t * u + u = add-mul t 1 u ∙ ap (λ (x : ℕ). t * u + x) (one-mul u) in
            let S : (r + 1) * u ≤ 2 * t * u = mul-le-mul_right u (omega arith) in
            let S' : (r + 1) * u ≡ r * u + u = add-mul r 1 u ∙ ap (λ (x : ℕ). r * u + x) (one-mul u) in
            let S'' : 2 * t * u ≡ 2 * (t * u) = mul_assoc 2 t u in
            closest-up a (u * (2 * t)) m (a - m * (u * (2 * t))) (omega arith) (omega arith) (omega arith)
            ∙ sym (digits_div (suc m) {m = 2 * t} {r = r - t} (omega arith))
            ∙ ap (λ (x : ℕ). x / (2 * t)) (omega (arith, suc-mul m (2 * t)))
        | inr h ↦
            let R : (r + 1) * u ≤ t * u = mul-le-mul_right u (omega arith) in
            let R' : (r + 1) * u ≡ r * u + u = add-mul r 1 u ∙ ap (λ (x : ℕ). r * u + x) (one-mul u) in
            down m refl (omega arith) (omega arith) (omega arith) u-le
            ∙ sym (digits_div m {m = 2 * t} {r = r + t} (omega arith))
            ∙ ap (λ (x : ℕ). x / (2 * t)) (omega arith)
      ]
    where
      shuffle : (x y z : ℕ) → x * (2 * y) * z ≡ x * (y * z) * 2
      shuffle x y z = simp (mul_assoc, mul_comm, mul_left_comm)

      double : (x y : ℕ) → x * (2 * y) ≡ 2 * (y * x)
      double x y = simp (mul_comm, mul_left_comm)

      mul3 : (x y z : ℕ) → x * (y * (2 * z)) ≡ x * (z * y) * 2
      mul3 x y z = simp (mul_assoc, mul_comm, mul_left_comm)

      -- a is a little above m units, or a little below
      down : (k : ℕ) → k ≡ m → 2 * a + u ≤ 2 * (m * (u * (2 * t))) + u * (2 * t) → 2 * (m * (u * (2 * t))) ≤ 2 * a + u → 2 * u ≤ u * (2 * t) → u ≤ t * u → closest a (u * (2 * t)) ≡ m
      down zero z hi lo big ul =
          let x : m * (u * (2 * t)) ≡ 0 * (u * (2 * t)) = ap (λ (y : ℕ). y * (u * (2 * t))) (sym z) in
          closest-down a (u * (2 * t)) m a (omega arith) (omega arith)
      down (suc k) z hi lo big ul =
          elim (le-or-lt (m * (u * (2 * t))) a) [
            | inl h ↦ closest-down a (u * (2 * t)) m (a - m * (u * (2 * t))) (omega arith) (omega arith)
            | inr h ↦
                let x : m * (u * (2 * t)) ≡ k * (u * (2 * t)) + u * (2 * t) = ap (λ (y : ℕ). y * (u * (2 * t))) (sym z) ∙ suc-mul k (u * (2 * t)) in
                closest-up a (u * (2 * t)) k (a - k * (u * (2 * t))) (omega arith) (omega arith) (omega arith) ∙ z
          ]

  pub closest-coarse : (closest a u % (2 * t) ≡ t → ⊥) → closest a (u * (2 * t)) ≡ (closest a u + t) / (2 * t)
  closest-coarse n = let q = closest a u in coarse-at q (q / (2 * t)) (q % (2 * t)) refl (sym (div-add-mod' q (2 * t))) (mod-lt q (omega arith)) n

-- ---- digits cut off
pub size-shr : (n j : ℕ) → size (n / 2 ^ j) ≡ size n - j
size-shr n j =
    let z = size n in
    let most : size (n / 2 ^ j) ≤ z - j = size-le (n / 2 ^ j) (z - j) ((div-lt_iff_lt-mul (pow_pos j)).1 (lt_of_lt_of_le (size-lt n) (le_trans (pow_mono {i = z} {j = z - j + j} (omega arith)) (le_of_eq (pow-add 2 (z - j) j))))) in
    elim (le-or-lt z j) [
      | inl h ↦ omega arith
      | inr h ↦
          let w = z - 1 - j in
          let least : w < size (n / 2 ^ j) = size-gt (n / 2 ^ j) w ((le-div_iff_mul-le (pow_pos j)).1 (le_trans (le_of_eq (sym (pow-add 2 w j) ∙ ap (λ (x : ℕ). 2 ^ x) (again z j h))) (size_reaches n (z - 1) (omega arith)))) in
          omega arith
    ]
  where
    again : (x y : ℕ) → y < x → x - 1 - y + y ≡ x - 1
    again x y g = omega arith

-- ---- two formats: f keeps E + 1 digits fewer than g, and its smallest value is 2 ^ D of g's
module _ (f g : Format) (E D A d : ℕ) (fewer : prec g ≡ prec f + suc E) (some : suc E < D) where
  -- A, rounded to g, has the size of a normal value of f
  module _ (normal : D ≤ suc E + dropped g A d) where
    digits : size (A / 2 ^ d) ≡ dropped g A d + prec g
    unfolding dropped
    digits = let n = normal in omega arith

    pub dropped-fewer : dropped f A (d + D) ≡ suc E + dropped g A d - D
    unfolding dropped
    dropped-fewer = ap (λ (x : ℕ). size x - prec f) (sym (shr-shr A d D)) ∙ ap (λ (x : ℕ). x - prec f) (size-shr (A / 2 ^ d) D) ∙ omega (arith, digits)

    unit-fewer : 2 ^ (d + D) * 2 ^ dropped f A (d + D) ≡ 2 ^ d * 2 ^ dropped g A d * 2 ^ suc E
    unit-fewer =
        let j = dropped g A d in
        ap (λ (x : ℕ). 2 ^ (d + D) * 2 ^ x) dropped-fewer ∙ sym (pow-add 2 (d + D) (suc E + j - D)) ∙ ap (λ (x : ℕ). 2 ^ x) (sums d D (suc E) j normal) ∙ pow-add 2 (d + j) (suc E) ∙ ap (λ (x : ℕ). x * 2 ^ suc E) (pow-add 2 d j)
      where
        sums : (d D E j : ℕ) → D ≤ E + j → d + D + (E + j - D) ≡ d + j + E
        sums d D E j h = omega arith

    -- ... and does not lie halfway between two of f's: from g's digits half of f's last place up, and cut
    pub kept-fewer : (closest A (2 ^ d * 2 ^ dropped g A d) % 2 ^ suc E ≡ 2 ^ E → ⊥)
        → closest A (2 ^ (d + D) * 2 ^ dropped f A (d + D)) ≡ (closest A (2 ^ d * 2 ^ dropped g A d) + 2 ^ E) / 2 ^ suc E
    kept-fewer n =
        let u = 2 ^ d * 2 ^ dropped g A d in
        let w : 2 ^ suc E ≡ 2 * 2 ^ E = pow-succ' 2 E in
        ap (λ (x : ℕ). closest A x) (unit-fewer ∙ ap (λ (x : ℕ). u * x) w)
        ∙ closest-coarse A u (2 ^ E) (mul-pos (pow_pos d) (pow_pos (dropped g A d))) (pow_pos E) (λ (t : closest A u % (2 * 2 ^ E) ≡ 2 ^ E). n (ap (λ (x : ℕ). closest A u % x) w ∙ t))
        ∙ ap (λ (x : ℕ). (closest A u + 2 ^ E) / x) (sym w)

    -- ... or is exact in g: g's digits rounded
    pub kept-exact : (z : ℕ) → A ≡ z * (2 ^ d * 2 ^ dropped g A d) → closest A (2 ^ (d + D) * 2 ^ dropped f A (d + D)) ≡ closest z (2 ^ suc E)
    kept-exact z e =
        let u = 2 ^ d * 2 ^ dropped g A d in
        ap (λ (x : ℕ). closest A x) unit-fewer
        ∙ closest_same A (u * 2 ^ suc E) z (2 ^ suc E) (mul-pos (mul-pos (pow_pos d) (pow_pos (dropped g A d))) (pow_pos (suc E))) (pow_pos (suc E)) (ap (λ (x : ℕ). x * 2 ^ suc E) e ∙ mul_assoc z u (2 ^ suc E))
