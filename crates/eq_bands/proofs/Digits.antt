-- The loop that reads digits: what holds after i of them, and what a byte that is none, a number too large and the end say of the whole.
-- Assumes nothing.
use Prim.Native.Nat.{ℕ, ◌+◌, ◌-◌, ◌*◌, ◌^◌, ◌≤◌, ◌<◌}
use native.Mathlib.Nat.{le_refl, le_trans}
use native.Mathlib.Numerals.{add-one}
use native.Mathlib.Omega.{arith}
use mathlib.Core.Path.{◌≡◌, ◌∙◌}
use mathlib.Core.Bool.{true, false, and-false}
use mathlib.Core.List.{List, [], ◌∷◌}
use lib.Dec.{ltb}
use lib.ListN.{length, drop, get_or, drop_of_length-le}
use lib.Seq.{drop-cons}
use borrow.Author.Tests.{lt-ltb, le-leb, lt-leb}
use Rattle.std.specs.Prelude.{Some, None}
use Rattle.eq_bands.specs.Names.{is_digit, all_digits, behind, number_of}

grows : (n : ℕ) (ds : List ℕ) → n ≤ behind n ds
unfolding behind
grows n [] = le_refl n
grows n (d ∷ ds) = let h : n ≤ n * 10 + (d - 48) = omega arith in le_trans h (grows (n * 10 + (d - 48)) ds)

-- the first i digits are n
pub record Upto (ds : List ℕ) (n i : ℕ) : Type 0 where
  pub inside : i ≤ length ds
  pub fits : n < 2 ^ 64
  pub digits : all_digits ds ≡ all_digits (drop i ds)
  pub number : behind 0 ds ≡ behind n (drop i ds)

pub nothing : (ds : List ℕ) → length ds ≡ 0 → number_of ds ≡ None
unfolding number_of
nothing ds e = rw e

module _ {ds : List ℕ} {n i : ℕ} (u : Upto ds n i) (h : i < length ds) where
  pub no_digit : is_digit (get_or ds i 0) ≡ false → number_of ds ≡ None
  unfolding number_of all_digits
  no_digit e =
      let f : all_digits ds ≡ false = u.digits ∙ rw (drop-cons ds i 0 h, e) in
      rw (f, and-false (ltb 0 (length ds)))

  pub too_large : 2 ^ 64 ≤ n * 10 + (get_or ds i 0 - 48) → number_of ds ≡ None
  unfolding number_of behind
  too_large l =
      let e : behind 0 ds ≡ behind (n * 10 + (get_or ds i 0 - 48)) (drop (i + 1) ds) = u.number ∙ rw (drop-cons ds i 0 h, add-one i) in
      let g : 2 ^ 64 - 1 < behind 0 ds = rw e (omega (arith, l, grows (n * 10 + (get_or ds i 0 - 48)) (drop (i + 1) ds))) in
      rw (lt-leb _ _ g, and-false (all_digits ds), and-false (ltb 0 (length ds)))

  pub onward : (m : ℕ) → is_digit (get_or ds i 0) ≡ true → m ≡ n * 10 + (get_or ds i 0 - 48) → m < 2 ^ 64 → Upto ds m (i + 1)
  unfolding all_digits behind
  onward m d e l = record {
    inside = omega arith;
    fits = l;
    digits = u.digits ∙ rw (drop-cons ds i 0 h, add-one i, d);
    number = rw e (u.number ∙ rw (drop-cons ds i 0 h, add-one i));
  }

module _ {ds : List ℕ} {n i : ℕ} (u : Upto ds n i) where
  pub ended : (length ds ≡ 0 → ⊥) → length ds ≤ i → number_of ds ≡ Some n
  unfolding number_of all_digits behind
  ended more h =
      let some : 0 < length ds = omega (arith, more) in
      let d : all_digits ds ≡ true = u.digits ∙ rw (drop_of_length-le ds h) in
      let e : behind 0 ds ≡ n = u.number ∙ rw (drop_of_length-le ds h) in
      let f : n ≤ 2 ^ 64 - 1 = omega (arith, u.fits) in
      rw (lt-ltb _ _ some, d, e, le-leb _ _ f)
