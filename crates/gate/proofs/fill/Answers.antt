-- `gate::fill` meets its contract: what is read stands behind what was read before. Assumes nothing.
use Rattle.std.proofs.Common.{◌≡◌, ℕ, ◌+◌, ◌≤◌, List, ◌++◌, length, take, sym, ap, subst, ◌∙◌, rules, length-take-le}
use Rattle.std.proofs.lemmas.List.{take-append-le}
use Rattle.std.proofs.Math.Seq.{take-append-add}
use Rattle.std.proofs.KnownBytes.{Consumes-trans}
use Rattle.std.specs.Io.KnownBytes.{Consumes}
use Rattle.gate.proofs.fill.Goals as goal

-- the first bytes of a buffer, and those of a part that was put behind them
behind : (at n : ℕ) (xs ys zs : List ℕ) → at ≤ length xs → n ≤ length ys → take (at + n) (take at xs ++ (ys ++ zs)) ≡ take at xs ++ take n ys
behind at n xs ys zs within fits =
    let long = length-take-le at xs within in
    ap (λ (k : ℕ). take (k + n) (take at xs ++ (ys ++ zs))) (sym long)
    ∙ take-append-add (take at xs) (ys ++ zs) n
    ∙ ap (λ (l : List ℕ). take at xs ++ l) (take-append-le n ys zs fits)

pub loop-at-preserved : goal.loop-at-preserved
loop-at-preserved g c =
    let before = c.loop-at.invariant in
    let read = c.in-Ok.ensures in
    record {
      within = search rules;
      taken = subst (Consumes _ _) (sym (behind c.loop-at.at c.in-Ok.n c.loop-at.buffer c.read.new.buf _ before.within read.bound.0)) (Consumes-trans _ _ _ _ _ before.taken read.bytes.0);
    }
