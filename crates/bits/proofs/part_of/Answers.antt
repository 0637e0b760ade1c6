-- `bits::part_of` meets its contract. Assumes nothing.
use mathlib.Core.Path.{refl, sym, ap, ◌∙◌}
use Prim.Native.Nat.{ℕ, ◌+◌, ◌-◌, ◌%◌, ◌^◌}
use native.Mathlib.Omega.{arith}
use native.Mathlib.Nat.{div-eq_of_lt}
use Rattle.rounding.proofs.Machine.{one_shl, under_pow, significand-none, significand-some, significand-far}
use Rattle.bits.proofs.part_of.Goals as goal

pub returns-then-p-gt63 : goal.returns-then-p-gt63
returns-then-p-gt63 c =
    let a = c.args in
    let l = under_pow 64 a.b a.p (omega arith) c.if-p-gt63.true in
    (sym (significand-far a.p a.b (omega arith) c.if-p-gt63.true), sym (ap (λ (x : ℕ). x - 1) (div-eq_of_lt l)))

pub returns-then-x-eq0 : goal.returns-then-x-eq0
returns-then-x-eq0 c =
    let a = c.args in
    (ap (λ (x : ℕ). a.b % x) (one_shl 64 a.p (omega arith)) ∙ sym (significand-none (2 ^ a.p) a.b c.if-x-eq0.true), omega arith)

pub returns : goal.returns
returns c =
    let a = c.args in
    (ap (λ (x : ℕ). x + a.b % x) (one_shl 64 a.p (omega arith)) ∙ sym (significand-some (2 ^ a.p) a.b c.if-x-eq0.false), refl)
