-- `float::casts::truncated` meets its contract. Assumes nothing.
use Rattle.std.proofs.Common.{◌≡◌, Bool, true≢false, cond, sym, ap, ◌∙◌, le→leb, arith}
use lib.Ieee.{of_bits, neg}
use lib.Ieee.Bits.{is_true}
use Rattle.float.specs.Truncating.{exactness}
use Rattle.float.specs.declared.Exactness.TheVariants.{Exact, Cut}
use Rattle.rounding.proofs.Casts.{cut-none, cut_most}
use Rattle.float.proofs.Truncating.{cut_below, cut-above, exact-large, word_back}
use Rattle.std.proofs.lemmas.Float.{T_from_true}
use Rattle.float.proofs.casts.truncated.Goals as goal
use Rattle.float.proofs.casts.truncated.Goals.{then-whole-ge-TWO_TO_24, else-whole-ge-TWO_TO_24, then-whole-x, else-whole-x, else-x-via-then-x+else-x-2, else-x-via-else-x}

pub truncating_f32_to_u64-whole-requires : goal.truncating_f32_to_u64-whole-requires
unfolding of_bits neg
truncating_f32_to_u64-whole-requires c = record { lower_bound = T_from_true _ c.if-x.true; upper_bound = T_from_true _ c.if-x-2.true }

pub returns-then-x-2 : goal.returns-then-x-2
unfolding of_bits neg
returns-then-x-2 c =
    let x = c.args.x in
    let n = c.truncating_f32_to_u64-whole in
    let t = c.if-whole-ge-TWO_TO_24.value in
    let said : cond t Exact Cut ≡ exactness x = elim c.if-whole-ge-TWO_TO_24.branch [
      | then-whole-ge-TWO_TO_24 w ↦
          rw (w.value-is ∙ is_true _ (le→leb _ _ w.if-whole-ge-TWO_TO_24.true)) (exact-large x (T_from_true _ c.well_formed.0.1) c.if-x-2.true (omega (arith, n.ensures, w.if-whole-ge-TWO_TO_24.true)))
      | else-whole-ge-TWO_TO_24 w ↦ word_back x n.result t n.ensures (omega (arith, w.if-whole-ge-TWO_TO_24.false)) (sym w.value-is)
    ] in (
      n.ensures,
      elim c.if-whole-x.branch [
        | then-whole-x w ↦ w.word-is ∙ sym (ap (λ (b : Bool). cond b Exact Cut) w.if-whole-x.true) ∙ said
        | else-whole-x w ↦ w.word-is ∙ sym (ap (λ (b : Bool). cond b Exact Cut) w.if-whole-x.false) ∙ said
      ],
    )

pub returns-then-x-3 : goal.returns-then-x-3
unfolding of_bits neg
returns-then-x-3 c =
    let x = c.args.x in
    let h = c.if-x-3.true in
    elim c.else-x.branch [
      | else-x-via-then-x+else-x-2 w ↦ (cut_most x h w.if-x-2.false, cut-above x h w.if-x-2.false)
      | else-x-via-else-x w ↦ absurd (true≢false (sym h ∙ w.if-x.false))
    ]

pub returns-else-x-3 : goal.returns-else-x-3
unfolding of_bits neg
returns-else-x-3 c = let x = c.args.x in (cut-none x c.if-x-3.false, cut_below x c.if-x-3.false)
