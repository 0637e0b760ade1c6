-- The counter against the history: aiming by the counter is aiming by the latest loud sample. Nothing here is about floats.
-- Assumes nothing.
use mathlib.Core.Path.{◌≡◌, refl, sym, ap, ◌∙◌, subst}
use mathlib.Core.Logic.{inl, inr}
use mathlib.Core.Bool.{Bool, true, false, cond, ◌||◌}
use mathlib.Core.List.{List, [], ◌∷◌, ◌++◌}
use Prim.Native.Nat.{ℕ, ◌-◌, ◌<◌}
use native.Mathlib.Omega.{arith}
use lib.Dec.{T, ltb, ltb→lt, lt→ltb}
use lib.ListN.{length}
use lib.Ieee.{lt}
use lib.Ieee.Bits.{is_true}
use Rattle.silence.specs.History.{Sample}
use Rattle.silence.specs.Demand3.{Loud, NoneLoud, Held}

abbrev loud_at : Sample → Bool
loud_at e = lt e.factor e.level

-- what samples leave in the counter
unfoldable pub left : List Sample → ℕ
left [] = 0
left (e ∷ past) = cond (loud_at e) e.hold (left past - 1)

-- and how the latest of them aims
unfoldable pub aims : Sample → List Sample → Bool
aims e past = loud_at e || ltb 0 (left (e ∷ past))

or_l : (a b : Bool) → T a → T (a || b)
or_l true b t = tt
or_l false b t = absurd t

or_r : (a b : Bool) → T b → T (a || b)
or_r true b t = tt
or_r false b t = t

no : (b : Bool) → ¬ T b → b ≡ false
no true f = absurd (f tt)
no false f = refl

-- from the latest loud sample on, the counter drops by one a sample
left-of : (later : List Sample) (it : Sample) (earlier : List Sample) → Loud it → NoneLoud later → left (later ++ (it ∷ earlier)) ≡ it.hold - length later
unfolding left
left-of [] it earlier l q = ap (λ (b : Bool). cond b it.hold (left earlier - 1)) (is_true (loud_at it) l) ∙ omega arith
left-of (e ∷ es) it earlier l q =
    ap (λ (b : Bool). cond b e.hold (left (es ++ (it ∷ earlier)) - 1)) (no (loud_at e) q.0) ∙ omega (arith, left-of es it earlier l q.1)

-- ---- held: aims
first : (e it : Sample) (past later earlier : List Sample) → length later ≡ 0 → e ∷ past ≡ later ++ (it ∷ earlier) → e ≡ it
first e it past [] earlier n p = cc
first e it past (d ∷ es) earlier n p = absurd (omega arith)

pub held-aims : (e : Sample) (past : List Sample) → Held e past → T (aims e past)
unfolding aims
held-aims e past k = elim k.near [
  | inl n ↦ or_l (loud_at e) (ltb 0 (left (e ∷ past))) (subst Loud (sym (first e k.it past k.later k.earlier n k.is)) k.loud)
  | inr n ↦ or_r (loud_at e) (ltb 0 (left (e ∷ past))) (lt→ltb 0 (left (e ∷ past)) (omega (arith, ap left k.is, left-of k.later k.it k.earlier k.loud k.latest)))
]

-- ---- aims: held
record Found (h : List Sample) : Type 0 where
  later : List Sample
  it : Sample
  earlier : List Sample
  is : h ≡ later ++ (it ∷ earlier)
  loud : Loud it
  latest : NoneLoud later

found : (h : List Sample) → 0 < left h → Found h
unfolding left
found [] p = absurd (omega arith)
found (e ∷ past) p = go (loud_at e) refl p (found past)
  where
    go : (b : Bool) → loud_at e ≡ b → 0 < cond b e.hold (left past - 1) → (0 < left past → Found past) → Found (e ∷ past)
    go true q p f = record { later = []; it = e; earlier = past; is = refl; loud = subst T (sym q) tt; latest = tt }
    go false q p f =
        let r = f (omega arith) in
        record { later = e ∷ r.later; it = r.it; earlier = r.earlier; is = ap (λ (l : List Sample). e ∷ l) r.is; loud = r.loud; latest = (λ (t : T (loud_at e)). subst T q t, r.latest) }

pub aims-held : (e : Sample) (past : List Sample) → T (aims e past) → Held e past
unfolding aims
aims-held e past t = go (loud_at e) refl t
  where
    go : (b : Bool) → loud_at e ≡ b → T (b || ltb 0 (left (e ∷ past))) → Held e past
    go true q t = record { later = []; it = e; earlier = past; is = refl; loud = subst T (sym q) tt; latest = tt; near = inl refl }
    go false q t =
        let p = ltb→lt 0 (left (e ∷ past)) t in
        let r = found (e ∷ past) p in
        let n : left (e ∷ past) ≡ r.it.hold - length r.later = ap left r.is ∙ left-of r.later r.it r.earlier r.loud r.latest in
        record { later = r.later; it = r.it; earlier = r.earlier; is = r.is; loud = r.loud; latest = r.latest; near = inr (omega arith) }
