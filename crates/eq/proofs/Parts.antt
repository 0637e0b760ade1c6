-- A block in parts: what holds after i samples is kept by a turn that runs the next n of them together, by the laws of a block cut anywhere.
-- Assumes nothing.
use Prim.Native.Nat.{ℕ, ◌+◌, ◌-◌, ◌≤◌}
use native.Mathlib.Omega.{arith}
use mathlib.Core.Path.{◌≡◌, sym, ◌∙◌, ap}
use mathlib.Core.List.{List, ◌++◌, append_assoc}
use lib.ListN.{length, take, drop, length-take, length-drop, length-append, take-append-drop}
use lib.Seq.{drop-drop, take_at}
use Rattle.fold.specs.Fold.{state_after, out_after}
use Rattle.fold.proofs.Block.{Upto}
use Rattle.fold.proofs.Parts.{state-parts, out-parts, out-length}

-- ---- a turn
module _ {S X Y : Type 0} (step : S → X → S) (out : S → X → Y) {s₀ : S} {input : List X} {output₀ : List Y} {s : S} {output : List Y} {i : ℕ} (u : Upto step out s₀ input output₀ s output i) (same : length input ≡ length output₀) where
  module _ (n : ℕ) (h : i + n ≤ length input) where
    abbrev now : List X
    now = take n (drop i input)

    abbrev later : List X
    later = drop (i + n) input

    cut : drop i input ≡ now ++ later
    cut = sym (take-append-drop n (drop i input)) ∙ ap (λ (l : List X). now ++ l) (drop-drop n i input)

    long-now : length now ≡ n
    long-now = rw length-take (omega (arith, length-drop i input))

    module _ (t : S) (ys : List Y) (et : t ≡ state_after step s now) (ey : ys ≡ out_after step out s now) where
      abbrev front : List Y
      front = take i output ++ ys

      abbrev rest : List Y
      rest = drop n (drop i output)

      long-ys : length ys ≡ n
      long-ys = ap length ey ∙ out-length step out s now ∙ long-now

      long-front : length front ≡ i + n
      long-front = length-append (take i output) ys ∙ omega (arith, length-take i output, long-ys, u.long)

      front-first : take (i + n) (take i output ++ (ys ++ rest)) ≡ front
      front-first = ap (take (i + n)) (sym (append_assoc (take i output) ys rest)) ∙ take_at front rest (i + n) long-front

      joined : ys ++ out_after step out t later ≡ out_after step out s (drop i input)
      joined = rw (ey, et) (sym (out-parts step out s now later) ∙ ap (out_after step out s) (sym cut))

      turned : Upto step out s₀ input output₀ t (take i output ++ (ys ++ rest)) (i + n)
      turned = record {
        within = h;
        long = ap length (sym (append_assoc (take i output) ys rest)) ∙ length-append front rest ∙ omega (arith, long-front, length-drop n (drop i output), length-drop i output, u.long);
        state = ap (λ (r : S). state_after step r later) et ∙ sym (state-parts step s now later) ∙ ap (state_after step s) (sym cut) ∙ u.state;
        outs = ap (λ (l : List Y). l ++ out_after step out t later) front-first ∙ append_assoc (take i output) ys (out_after step out t later) ∙ ap (λ (l : List Y). take i output ++ l) joined ∙ u.outs;
      }

  -- the part from i to i + n
  pub onward : (n : ℕ) → i + n ≤ length input → (t : S) (ys : List Y)
      → t ≡ state_after step s (take (i + n - i) (drop i input)) → ys ≡ out_after step out s (take (i + n - i) (drop i input))
      → Upto step out s₀ input output₀ t (take i output ++ (ys ++ drop (i + n - i) (drop i output))) (i + n)
  onward n h t ys et ey =
      let e : i + n - i ≡ n = omega arith in
      rw e (turned n h t ys (rw e at et) (rw e at ey))
