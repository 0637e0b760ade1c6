-- A block that is done has written, at each place, the sample's step; and each lies from -1 to 1.
-- Assumes nothing.
use mathlib.Core.Path.{◌≡◌, refl, sym, ap, ◌∙◌}
use mathlib.Core.Bool.{Bool, true, false, not, ◌||◌, true≢false}
use mathlib.Core.List.{List, [], ◌∷◌}
use Prim.Native.Nat.{ℕ, zero, suc, ◌<◌}
use native.Mathlib.Nat.{le_of_suc-le-suc, not-suc-le-zero, lt_of_lt_of_le}
use lib.Dec.{T, eqb, leb}
use lib.ListN.{length, get_or}
use lib.Ieee.{Float, lt}
use lib.Ieee.Scale.{finite}
use borrow.Author.Tests.{leb-true}
use Rattle.answer.specs.Figures.{f32, longest_block, largest_sample}
use Rattle.answer.specs.Checks.{is_refused, first_refused}
use Rattle.answer.specs.Told.{Told, refused, unless}
use Rattle.answer.specs.declared.Refusal.{Refusal}
use Rattle.answer.specs.declared.Refusal.TheVariants.{OutOfRange, BadSample, LengthsDiffer, TooLong}
use Rattle.answer.proofs.Refusals.{never_nought}
use Rattle.answer.proofs.Samples.{before-first}
use Rattle.rounding.specs.Casts.{absolute}
use Rattle.clipper.specs.Process.{process}
use Rattle.clipper.specs.Block.{processed, block}
use Rattle.clipper.specs.declared.Kind.{Kind}
use Rattle.promises.specs.Clipper.{Written}
use Rattle.promises.proofs.Clipper.Range.{process-between}

processed-at : (kind : Kind) (drive : Float) (xs : List Float) (i : ℕ) (d : Float) → i < length xs → get_or (processed kind drive xs) i d ≡ process kind (get_or xs i d) drive
unfolding processed
processed-at kind drive [] i d h = absurd (not-suc-le-zero h)
processed-at kind drive (x ∷ xs) zero d h = refl
processed-at kind drive (x ∷ xs) (suc i) d h = processed-at kind drive xs i d (le_of_suc-le-suc h)

accepted-finite : (x : Float) → is_refused x ≡ false → T (finite x)
unfolding is_refused
accepted-finite x h = go (finite x) (lt (f32 largest_sample 1) (absolute x)) h
  where
    go : (t b : Bool) → not t || b ≡ false → T t
    go true b h = tt
    go false b h = absurd (true≢false h)

-- a test that a done call has passed
passed : (test : Bool) (r : Refusal) (s : List Float) (rest : Told (List Float)) → (unless test (refused s r) rest).number ≡ 0 → (test ≡ true) × (rest.number ≡ 0)
passed true r s rest e = (refl, e)
passed false r s rest e = absurd (never_nought r (sym e))

record Passed (drive : Float) (input output : List Float) : Type 0 where
  lengths : eqb (length input) (length output) ≡ true
  short : leb (length input) longest_block ≡ true
  finite-drive : finite drive ≡ true
  samples : leb (length input) (first_refused input) ≡ true

module _ (kind : Kind) (drive : Float) (input output : List Float) (done : (block kind drive input output).number ≡ 0) where
  passed-all : Passed drive input output
  unfolding block
  passed-all =
      let first = passed (eqb (length input) (length output)) LengthsDiffer output _ done in
      let second = passed (leb (length input) longest_block) TooLong output _ first.1 in
      let third = passed (finite drive) OutOfRange output _ second.1 in
      let fourth = passed (leb (length input) (first_refused input)) (BadSample (first_refused input)) output _ third.1 in
      record { lengths = first.0; short = second.0; finite-drive = third.0; samples = fourth.0 }

  pub done-is : (block kind drive input output).state ≡ processed kind drive input
  unfolding block
  done-is = let p = passed-all in rw (p.lengths, p.short, p.finite-drive, p.samples)

  pub written : (i : ℕ) (d : Float) → i < length input → Written kind drive input output i d
  written i d h =
      let p = passed-all in
      let accepted = accepted-finite (get_or input i d) (before-first input i d (lt_of_lt_of_le h (leb-true (length input) (first_refused input) p.samples))) in
      let is : get_or (block kind drive input output).state i d ≡ process kind (get_or input i d) drive = ap (λ (l : List Float). get_or l i d) done-is ∙ processed-at kind drive input i d h in
      record { is = is; between = rw is (process-between kind (get_or input i d) drive accepted (rw p.finite-drive tt)) }
