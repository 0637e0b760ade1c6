-- `double_general::aligned` meets its contract. Assumes nothing.
use Rattle.std.proofs.Common.{◌≡◌, ℕ, ◌-◌, ◌*◌, ◌%◌, sym, ap, ◌∙◌, arith}
use Rattle.rounding.specs.Steps.{stick}
use Rattle.rounding.proofs.Fused.{stick-zero}
use Rattle.double_general.proofs.aligned.Goals as goal

pub returns-then-x-y : goal.returns-then-x-y
returns-then-x-y c =
    let a = c.args in
    let e : a.p * 262144 % 340282366920938463463374607431768211456 ≡ a.p * 262144 = omega arith in
    let f : a.m * 2361183241434822606848 % 340282366920938463463374607431768211456 ≡ a.m * 2361183241434822606848 = omega arith in
    let z : 0 ≡ a.x - a.y = omega arith in
    record { u_value = c.sticky128.ensures ∙ ap (λ (v : ℕ). stick v (a.y - a.x)) e; v_value = f ∙ sym (stick-zero (a.m * 2361183241434822606848)) ∙ ap (λ (v : ℕ). stick (a.m * 2361183241434822606848) v) z; e_value = omega arith }

pub returns : goal.returns
returns c =
    let a = c.args in
    let e : a.p * 262144 % 340282366920938463463374607431768211456 ≡ a.p * 262144 = omega arith in
    let f : a.m * 2361183241434822606848 % 340282366920938463463374607431768211456 ≡ a.m * 2361183241434822606848 = omega arith in
    let z : 0 ≡ a.y - a.x = omega arith in
    record { u_value = e ∙ sym (stick-zero (a.p * 262144)) ∙ ap (λ (v : ℕ). stick (a.p * 262144) v) z; v_value = c.sticky128-2.ensures ∙ ap (λ (v : ℕ). stick v (a.x - a.y)) f; e_value = omega arith }
