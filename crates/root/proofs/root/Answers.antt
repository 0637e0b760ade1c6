-- `root::root` meets its contract.
-- Assumes nothing.
use Rattle.std.proofs.Common.{sym, ap, ◌∙◌, inl, inr, arith}
use lib.Ieee.{binary32, of_bits}
use lib.Ieee.Bits.{of_bits-to_bits, to_bits-lt}
use Rattle.root.specs.Root.{root}
use Rattle.root.proofs.Special.{above_zero, root-own, root_none}
use Rattle.std.proofs.lemmas.Float.{T_from_true}
use Rattle.root.proofs.root.Goals as goal
use Rattle.root.proofs.root.Goals.{else-x-via-then-x+else-x-2, else-x-via-else-x}

pub overflow_cast-x : goal.overflow_cast-x
overflow_cast-x c = omega (arith, to_bits-lt binary32 c.args.x (T_from_true _ c.well_formed.0.1))

pub positive-requires : goal.positive-requires
positive-requires c =
    let b = above_zero c.args.x (T_from_true _ c.well_formed.0.1) c.if-x.true c.if-x-2.true in
    record { b_nonzero = b.0; b_bound = b.1 }

pub returns-then-x-2 : goal.returns-then-x-2
returns-then-x-2 c = c.positive.ensures ∙ ap (root binary32) (of_bits-to_bits binary32 c.args.x (T_from_true _ c.well_formed.0.1))

pub returns-then-x-3 : goal.returns-then-x-3
returns-then-x-3 c = root-own c.args.x c.if-x-3.true (elim c.else-x.branch [ else-x-via-then-x+else-x-2 w ↦ inr w.if-x-2.false | else-x-via-else-x w ↦ inl w.if-x.false ])

pub returns-else-x-3 : goal.returns-else-x-3
unfolding of_bits
returns-else-x-3 c = sym (root_none c.args.x c.if-x-3.false)
