-- `float::casts::narrowed` meets its contract. Assumes nothing.
use Rattle.std.proofs.Common.{◌≡◌, ℕ, ◌+◌, ◌*◌, ◌/◌, ◌<◌, ◌≤◌, min, Bool, true, false, cond, not, T, leb, sym, ap, subst, ◌∙◌, arith, leb→le}
use lib.Dec.{nleb→lt}
use lib.Ieee.{Float, binary32, binary64, of_bits, to_bits, nan_bits, fits}
use lib.Ieee.Bits.{to_bits-lt}
use Rattle.rounding.proofs.Nan.{of_nan}
use Rattle.rounding.proofs.Terms.{no_nan}
use Rattle.rounding.proofs.Casts.{narrow-nan, narrowed-is}
use Rattle.float.proofs.casts.narrowed.Goals as goal
use Rattle.std.proofs.lemmas.Float.{T_from_true}

pattern : (x : Float) → fits binary64 x ≡ true → to_bits binary64 x < 18446744073709551616
pattern x h = to_bits-lt binary64 x (T_from_true _ h)

-- the sign's digit, moved
sign : (w : ℕ) → w < 18446744073709551616 → w / 9223372036854775808 * 2147483648 ≡ cond (leb 9223372036854775808 w) 2147483648 0
sign w h = go (leb 9223372036854775808 w) (leb→le 9223372036854775808 w) (nleb→lt 9223372036854775808 w)
  where
    go : (b : Bool) → (T b → 9223372036854775808 ≤ w) → (T (not b) → w < 9223372036854775808) → w / 9223372036854775808 * 2147483648 ≡ cond b 2147483648 0
    go true a b = let k = a tt in omega arith
    go false a b = let k = b tt in omega arith

pub returns-then-is_nan : goal.returns-then-is_nan
unfolding of_bits
returns-then-is_nan c = narrow-nan c.args.x (of_nan _ (sym c.if-is_nan.ensures.value))

pub float_from_bits-result : goal.float_from_bits-result
float_from_bits-result c =
    let w = to_bits binary64 c.args.x in
    subst (λ (z : ℕ). T (not (nan_bits binary32 (z + c.min-size.result)))) (sym (sign w (pattern c.args.x c.well_formed.0.1))) (no_nan binary32 (leb 9223372036854775808 w) c.min-size.result (omega (arith, c.min-size.ensures)))

pub overflow_mul-result : goal.overflow_mul-result
overflow_mul-result c = omega (arith, pattern c.args.x c.well_formed.0.1)

pub overflow_add-result : goal.overflow_add-result
overflow_add-result c = omega (arith, pattern c.args.x c.well_formed.0.1, c.min-size.ensures)

pub overflow_cast-result : goal.overflow_cast-result
overflow_cast-result c = omega (arith, pattern c.args.x c.well_formed.0.1, c.min-size.ensures)

pub returns : goal.returns
returns c =
    let x = c.args.x in
    let w = to_bits binary64 x in
    ap (λ (z : ℕ). of_bits binary32 (z + c.min-size.result)) (sign w (pattern x c.well_formed.0.1))
    ∙ ap (λ (z : ℕ). of_bits binary32 (cond (leb 9223372036854775808 w) 2147483648 0 + z)) (c.min-size.ensures ∙ ap (λ (z : ℕ). min z 2139095040) c.rounded.ensures)
    ∙ narrowed-is x (T_from_true _ c.well_formed.0.1) c.if-is_nan.ensures.not_nan
