-- `root::positive` meets its contract.
-- Assumes nothing.
use Rattle.std.proofs.Common.{◌≡◌, ℕ, ◌+◌, ◌-◌, ◌*◌, ◌/◌, ◌%◌, ◌^◌, ◌<◌, ◌≤◌, sym, refl, ap, ◌∙◌, mul-one, arith}
use lib.Ieee.{binary32, of_bits}
use Rattle.root.specs.Steps.{NearestWhole}
use Rattle.root.proofs.Parts.{number, Steps, steps-normal, significand-all, root-pattern, q-most}
use Rattle.root.proofs.positive.Goals as goal

-- past the test the significand has all its digits
steps-at : (c : goal.Else-b-lt-NORMAL) → let b = c.args.b in let k = b / 8388608 - 1 in Steps (b % 8388608 + 8388608) k 0 (k % 2)
steps-at c = steps-normal (c.args.b % 8388608 + 8388608) (c.args.b / 8388608 - 1) (omega arith) (omega arith)

-- the whole number nearest to the root
near : (c : goal.After-nearest_root-q) → let b = c.args.b in NearestWhole ((b % 8388608 + 8388608) * 2 ^ (23 + (b / 8388608 - 1) % 2)) c.nearest_root-q.result
near c = let z = steps-at c.before.before in rw z.shl-n at c.nearest_root-q.ensures

q-at : (c : goal.After-nearest_root-q) → c.nearest_root-q.result ≤ 16777216
q-at c = q-most _ c.nearest_root-q.result (near c) (steps-at c.before.before).n-most

-- the half of an even number, and of one more
halved : (k : ℕ) → (k + 126) / 2 ≡ (k + 126 - 0 - k % 2) / 2
halved k = up k ∙ sym (down k)
  where
    up : (k : ℕ) → (k + 126) / 2 ≡ k / 2 + 63
    up k = omega arith

    down : (k : ℕ) → (k + 126 - 0 - k % 2) / 2 ≡ k / 2 + 63
    down k = omega arith

pub guess-requires : goal.guess-requires
guess-requires c = c.requires.b_bound

pub nearest_root-q-requires : goal.nearest_root-q-requires
nearest_root-q-requires c = let z = steps-at c.before in rw z.shl-n record { n_least = z.n-least; n_bound = z.n-most; g_bound = c.guess.ensures }

pub overflow_add-result : goal.overflow_add-result
overflow_add-result c = let q = q-at c in let l = c.requires.b_bound in omega arith

pub overflow_cast-result : goal.overflow_cast-result
overflow_cast-result c = let q = q-at c in let l = c.requires.b_bound in omega arith

pub float_from_bits-result : goal.float_from_bits-result
float_from_bits-result c = let q = q-at c in let l = c.requires.b_bound in number _ (omega arith)

pub returns : goal.returns
returns c =
    let a = c.before.before.before in
    let b = a.args.b in
    let m = b % 8388608 + 8388608 in
    let k = b / 8388608 - 1 in
    let q = c.nearest_root-q.result in
    let u : b < 2139095040 = a.requires.b_bound in
    let low : (k + 126) / 2 * 8388608 % 18446744073709551616 ≡ (k + 126) / 2 * 8388608 = omega arith in
    ap (λ (x : ℕ). of_bits binary32 (x + q)) (low ∙ ap (λ (x : ℕ). x * 8388608) (halved k))
    ∙ root-pattern b a.requires.b_nonzero u m k 0 (k % 2) m q (significand-all b c.if-b-lt-NORMAL.false) refl (sym (mul-one m)) (steps-at c.before.before) (near c)
