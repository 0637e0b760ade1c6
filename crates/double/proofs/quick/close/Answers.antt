-- `double::quick::close` meets its contract. Assumes nothing.
use Rattle.std.proofs.Common.{◌≡◌, ℕ, ◌+◌, ◌-◌, ◌*◌, ◌/◌, ◌%◌, ◌^◌, ◌<◌, ◌≤◌, sym, ap, ◌∙◌, lt_of_le_of_lt, mod-lt, mul_assoc, mul-le-mul, arith, lit<, pow-add}
use lib.Ieee.{binary64}
use Rattle.rounding.specs.Steps.{significand}
use Rattle.rounding.proofs.Nearby.{near-whole, significand-normal}
use Rattle.double.proofs.quick.close.Goals as goal

product : (x y : ℕ) → x < 4503599627370496 → y < 4503599627370496
    → (20282409603651670423947251286016 ≤ (4503599627370496 + x) * (4503599627370496 + y)) × ((4503599627370496 + x) * (4503599627370496 + y) < 81129638414606681695789005144064)
product x y h k = (
  mul-le-mul {n₁ = 4503599627370496} {m₁ = 4503599627370496} {n₂ = 4503599627370496 + x} {m₂ = 4503599627370496 + y} (omega arith) (omega arith),
  lt_of_le_of_lt (mul-le-mul {n₁ = 4503599627370496 + x} {m₁ = 4503599627370496 + y} {n₂ = 9007199254740991} {m₂ = 9007199254740991} (omega arith) (omega arith)) (lit< tt),
)

-- a normal value's significand with 11 zeros
zeros : (c : ℕ) → 1 ≤ c % 9223372036854775808 / 4503599627370496 → 9223372036854775808 + c * 2048 % 18446744073709551616 % 9223372036854775808 ≡ significand 4503599627370496 (c % 9223372036854775808) * 2048
zeros c h = digits c ∙ ap (λ (x : ℕ). x * 2048) (significand-normal binary64 c h)
  where
    digits : (c : ℕ) → 9223372036854775808 + c * 2048 % 18446744073709551616 % 9223372036854775808 ≡ (4503599627370496 + c % 4503599627370496) * 2048
    digits c = omega arith

pub joined-requires : goal.joined-requires
joined-requires c =
    let pre = c.requires in
    let n = pre.near in
    let a = c.args in
    let q = significand 4503599627370496 (a.k % 9223372036854775808) in
    let x = 4503599627370496 + a.i % 4503599627370496 in
    let y = 4503599627370496 + a.j % 4503599627370496 in
    let z = 9223372036854775808 + a.k * 2048 % 18446744073709551616 % 9223372036854775808 in
    let t = 64 - (a.d + 3) in
    let few = pre.d_bound in
    let pq = product (a.i % 4503599627370496) (a.j % 4503599627370496) (mod-lt a.i (lit< tt)) (mod-lt a.j (lit< tt)) in
    let v = c.placed-v in
    let apart = n.apart in
    let sum = pre.x_value in
    record {
      c_value = rw pre.x_value (pre.c_value
          ∙ near-whole binary64 a.i a.j a.k (72 - a.d) (x * y) v.result n
          (ap (λ (w : ℕ). w * y) (significand-normal binary64 a.i n.a_some) ∙ ap (λ (w : ℕ). significand 4503599627370496 (a.i % 9223372036854775808) * w) (significand-normal binary64 a.j n.b_some))
          (v.ensures.value ∙ ap (λ (w : ℕ). w * 2 ^ t) (zeros a.k (omega (arith, n.c_some))) ∙ mul_assoc q 2048 (2 ^ t) ∙ ap (λ (w : ℕ). q * w) (sym (pow-add 2 11 t) ∙ ap (λ (w : ℕ). 2 ^ w) (omega arith))));
      p_least = omega (arith, pq.0);
      p_bound = pq.1;
      v_bound = v.ensures.bound;
      e_least = omega arith;
      e_bound = omega arith;
    }
