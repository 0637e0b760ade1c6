-- `root::subnormal` meets its contract.
-- Assumes nothing.
use Rattle.std.proofs.Common.{◌≡◌, ℕ, ◌+◌, ◌-◌, ◌*◌, ◌/◌, ◌%◌, ◌^◌, ◌<◌, ◌≤◌, refl, ap, ◌∙◌, arith}
use lib.Count.{count_leading_zeros}
use lib.Ieee.{binary32, of_bits}
use Rattle.root.specs.Steps.{NearestWhole}
use Rattle.root.proofs.Parts.{number, Steps, Zeros, zeros, steps-subnormal, significand-own, root-pattern, q-most}
use Rattle.root.proofs.subnormal.Goals as goal

zeros-at : (c : goal.Start) → Zeros c.args.b (count_leading_zeros 64 c.args.b)
zeros-at c = zeros c.args.b c.requires.b_nonzero c.requires.b_bound

steps-at : (c : goal.Start) → Steps (c.args.b * 2 ^ (count_leading_zeros 64 c.args.b - 40)) 0 (count_leading_zeros 64 c.args.b - 40) ((count_leading_zeros 64 c.args.b - 40) % 2)
steps-at c = steps-subnormal c.args.b (count_leading_zeros 64 c.args.b) (zeros-at c)

-- the whole number nearest to the root
near : (c : goal.After-nearest_root-q) → let b = c.args.b in NearestWhole (b * 2 ^ (count_leading_zeros 64 b - 40) * 2 ^ (23 + (count_leading_zeros 64 b - 40) % 2)) c.nearest_root-q.result
near c = rw ((zeros-at c.before.before).shl-m, (steps-at c.before.before).shl-n) at c.nearest_root-q.ensures

q-at : (c : goal.After-nearest_root-q) → c.nearest_root-q.result ≤ 16777216
q-at c = q-most _ c.nearest_root-q.result (near c) (steps-at c.before.before).n-most

pub overflow_sub-t : goal.overflow_sub-t
overflow_sub-t c = (zeros-at c).least

pub overflow_cast-odd : goal.overflow_cast-odd
overflow_cast-odd c = let z = zeros-at c in rw z.shl-m (omega arith)

pub guess-g-requires : goal.guess-g-requires
guess-g-requires c = let z = zeros-at c in rw z.shl-m (omega arith)

pub nearest_root-q-requires : goal.nearest_root-q-requires
nearest_root-q-requires c = let z = steps-at c.before in rw ((zeros-at c.before).shl-m, z.shl-n) record { n_least = z.n-least; n_bound = z.n-most; g_bound = c.guess-g.ensures }

pub overflow_cast-result : goal.overflow_cast-result
overflow_cast-result c = let q = q-at c in omega arith

pub float_from_bits-result : goal.float_from_bits-result
float_from_bits-result c = let q = q-at c in number _ (omega arith)

pub returns : goal.returns
returns c =
    let a = c.before.before in
    let b = a.args.b in
    let t = count_leading_zeros 64 b - 40 in
    let e = (126 - t - t % 2) / 2 in
    let q = c.nearest_root-q.result in
    let l : b < 8388608 = a.requires.b_bound in
    let low : e * 8388608 % 18446744073709551616 ≡ e * 8388608 = omega arith in
    ap (λ (x : ℕ). of_bits binary32 (x + q)) low
    ∙ root-pattern b a.requires.b_nonzero (omega arith) b 0 t (t % 2) (b * 2 ^ t) q (significand-own b l) (omega arith) refl (steps-at a) (near c)
