-- `single::general::aligned` meets its contract. Assumes nothing.
use Rattle.std.proofs.Common.{◌≡◌, ℕ, ◌-◌, ◌*◌, ◌%◌, sym, ap, ◌∙◌, arith}
use Rattle.rounding.specs.Steps.{stick}
use Rattle.rounding.proofs.Fused.{stick-zero}
use Rattle.single.proofs.general.aligned.Goals as goal

pub returns-then-x-y : goal.returns-then-x-y
returns-then-x-y c =
    let a = c.args in
    let e : a.p * 16384 % 18446744073709551616 ≡ a.p * 16384 = omega arith in
    let f : a.m * 274877906944 % 18446744073709551616 ≡ a.m * 274877906944 = omega arith in
    let z : 0 ≡ a.x - a.y = omega arith in
    record { u_value = c.sticky.ensures ∙ ap (λ (v : ℕ). stick v (a.y - a.x)) e; v_value = f ∙ sym (stick-zero (a.m * 274877906944)) ∙ ap (λ (v : ℕ). stick (a.m * 274877906944) v) z; e_value = omega arith }

pub returns : goal.returns
returns c =
    let a = c.args in
    let e : a.p * 16384 % 18446744073709551616 ≡ a.p * 16384 = omega arith in
    let f : a.m * 274877906944 % 18446744073709551616 ≡ a.m * 274877906944 = omega arith in
    let z : 0 ≡ a.y - a.x = omega arith in
    record { u_value = e ∙ sym (stick-zero (a.p * 16384)) ∙ ap (λ (v : ℕ). stick (a.p * 16384) v) z; v_value = c.sticky-2.ensures ∙ ap (λ (v : ℕ). stick v (a.x - a.y)) f; e_value = omega arith }
