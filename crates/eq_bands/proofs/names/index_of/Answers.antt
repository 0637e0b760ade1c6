-- `eq_bands::names::index_of` meets its contract. Assumes nothing.
use Rattle.std.proofs.Common.{◌≡◌, ℕ, Bool, true, false, ◌&&◌, cond, eqb, refl, ◌∙◌, ap, List, [], ◌∷◌, take, drop, Bor, Option, Some, None, MatchOption}
use Rattle.std.specs.Option.{unwrap_or}
use Rattle.std.specs.Cmp.Lexicographic.{pointwise}
use Rattle.answer.proofs.Names.{same-is}
use Rattle.eq_bands.specs.Names.{number_of, after_plus, index_of}
use Rattle.eq_bands.proofs.names.index_of.Goals as goal

-- ---- behind a plus, where one stands
abbrev plus : List ℕ → Bool
plus bs = pointwise eqb (take 1 bs) (43 ∷ [])

there : (bs : List ℕ) → plus bs ≡ true → drop 1 bs ≡ after_plus bs
unfolding after_plus
there [] h = refl
there (b ∷ bs) h = go (eqb b 43) h
  where
    go : (t : Bool) → (t && true) ≡ true → bs ≡ cond t bs (b ∷ bs)
    go true h = refl
    go false h = absurd cc

none : (bs : List ℕ) → plus bs ≡ false → bs ≡ after_plus bs
unfolding after_plus
none [] h = refl
none (b ∷ bs) h = go (eqb b 43) h
  where
    go : (t : Bool) → (t && true) ≡ false → (b ∷ bs) ≡ cond t bs (b ∷ bs)
    go true h = absurd cc
    go false h = refl

behind_plus : (N : Bor (List ℕ) → Type 0) (bs : Bor (List ℕ)) (o : Option (Bor (List ℕ))) → MatchOption o (plus bs.now ≡ false) (λ x. (plus bs.now ≡ true) × (x.now ≡ drop 1 bs.now) × N x) → (unwrap_or o bs).now ≡ after_plus bs.now
behind_plus N bs (Some x) m = m.1 ∙ there bs.now m.0
behind_plus N bs None m = none bs.now m

pub returns-in_err-number : goal.returns-in_err-number
unfolding index_of
returns-in_err-number c = rw (c.from_residual.ensures, same-is, c.in_err-number.ensures.cases)

pub returns : goal.returns
unfolding index_of
returns c =
    let behind = c.in_ok-number.ensures.cases in
    rw (same-is, behind.0, ← behind.1) (c.number_of.ensures ∙ ap number_of (rw c.unwrap_or.ensures (behind_plus _ _ _ c.strip_prefix-2.ensures.cases)))
