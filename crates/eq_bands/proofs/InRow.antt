-- Bands one after the other over a buffer of samples are the row of bands over each sample, by the law of two stages in a row.
-- `Upto` is what holds after k bands. Assumes nothing.
use Prim.Native.Nat.{ℕ, suc, ◌+◌, ◌≤◌, ◌<◌}
use native.Mathlib.Nat.{le_refl}
use native.Mathlib.Numerals.{add-one}
use native.Mathlib.Omega.{arith}
use mathlib.Core.Path.{◌≡◌, refl, sym, ◌∙◌, ap}
use mathlib.Core.List.{List, [], ◌∷◌, ◌++◌, append_assoc, append-nil}
use lib.ListN.{length, take, drop, get_or, set, length-set, drop_of_length-le}
use lib.Seq.{drop-cons, drop-set-lt, take-suc-set, take_all}
use lib.Ieee.{Float}
use Rattle.fold.specs.Fold.{state_after, out_after, pair_next, pair_out}
use Rattle.fold.proofs.Parts.{out-length}
use Rattle.fold.proofs.Row.{row-state, row_out}
use Rattle.eq_bands.specs.declared.Numbers.{Numbers}
use Rattle.eq_bands.specs.declared.Band.{Band}
use Rattle.eq_bands.specs.declared.Settings.{Settings}
use Rattle.eq_bands.specs.declared.Delay.{Delay}
use Rattle.eq_bands.specs.declared.Registers.{Registers}
use Rattle.eq_bands.specs.Biquad as Biquad
use Rattle.eq_bands.specs.Row.{row_next, row_output, next, output, through}
use Rattle.eq_bands.proofs.Seen.{seen-state, seen-out}

-- what a buffer leaves in the bands, and what the last band gives
abbrev delays_after : List Band → List Delay → List Float → List Delay
delays_after bs ds xs = state_after (row_next bs) ds xs

abbrev given_after : List Band → List Delay → List Float → List Float
given_after bs ds xs = out_after (row_next bs) (row_output bs) ds xs

-- ---- the first band, and the rest over what it gives
module _ (b : Band) (bs : List Band) (d : Delay) (ds : List Delay) (xs : List Float) where
  abbrev n : Numbers
  n = b.numbers

  abbrev joined : Delay × List Delay → List Delay
  joined p = p.0 ∷ p.1

  first-delays : delays_after (b ∷ bs) (d ∷ ds) xs ≡ state_after (Biquad.next n) d xs ∷ delays_after bs ds (out_after (Biquad.next n) (Biquad.output n) d xs)
  unfolding row_next
  first-delays =
      seen-state joined (pair_next (Biquad.next n) (Biquad.output n) (row_next bs)) (row_next (b ∷ bs)) (λ p x. refl) (d, ds) xs
      ∙ ap joined (row-state (Biquad.next n) (Biquad.output n) (row_next bs) (row_output bs) d ds xs)

  first-given : given_after (b ∷ bs) (d ∷ ds) xs ≡ given_after bs ds (out_after (Biquad.next n) (Biquad.output n) d xs)
  unfolding row_next row_output
  first-given =
      seen-out joined (pair_next (Biquad.next n) (Biquad.output n) (row_next bs)) (row_next (b ∷ bs)) (λ p x. refl) (pair_out (Biquad.next n) (Biquad.output n) (row_next bs) (row_output bs)) (row_output (b ∷ bs)) (λ p x. refl) (d, ds) xs
      ∙ row_out (Biquad.next n) (Biquad.output n) (row_next bs) (row_output bs) d ds xs

-- ---- no bands
no-delays : (xs : List Float) → delays_after [] [] xs ≡ []
unfolding state_after row_next
no-delays [] = refl
no-delays (x ∷ xs) = no-delays xs

no-given : (xs : List Float) → given_after [] [] xs ≡ xs
unfolding out_after row_next row_output
no-given [] = refl
no-given (x ∷ xs) = ap (λ (l : List Float). x ∷ l) (no-given xs)

-- ---- the first k bands have run: the rest over the buffer as it is now does what is left
pub record Upto (bs : List Band) (ds₀ : List Delay) (xs₀ : List Float) (ds : List Delay) (xs : List Float) (k : ℕ) : Type 0 where
  pub inside : k ≤ 16
  pub long : length ds ≡ 16
  pub kept : length xs ≡ length xs₀
  pub delays : take k ds ++ delays_after (drop k bs) (drop k ds) xs ≡ delays_after bs ds₀ xs₀
  pub given : given_after (drop k bs) (drop k ds) xs ≡ given_after bs ds₀ xs₀

module _ {bs : List Band} {ds₀ : List Delay} {xs₀ : List Float} {ds : List Delay} {xs : List Float} {k : ℕ} (u : Upto bs ds₀ xs₀ ds xs k) (sixteen : length bs ≡ 16) where
  pub onward : (b : Band) (d e : Delay) (ys : List Float) → k < 16
      → (e, ys) ≡ Biquad.over (get_or bs k b).numbers (get_or ds k d) xs
      → Upto bs ds₀ xs₀ (set ds k e) ys (k + 1)
  onward b d e ys h r =
      let hb : k < length bs = omega arith in
      let hd : k < length ds = omega (arith, u.long) in
      let re : e ≡ state_after (Biquad.next (get_or bs k b).numbers) (get_or ds k d) xs = ap (λ (p : Delay × List Float). p.0) r in
      let ry : ys ≡ out_after (Biquad.next (get_or bs k b).numbers) (Biquad.output (get_or bs k b).numbers) (get_or ds k d) xs = ap (λ (p : Delay × List Float). p.1) r in
      record {
        inside = omega arith;
        long = length-set ds k e ∙ u.long;
        kept = ap length ry ∙ out-length (Biquad.next (get_or bs k b).numbers) (Biquad.output (get_or bs k b).numbers) (get_or ds k d) xs ∙ u.kept;
        delays = rw (add-one k, take-suc-set ds k, drop-set-lt (suc k) ds k e (le_refl (suc k)), append_assoc, re, ry)
            (rw (drop-cons bs k b hb, drop-cons ds k d hd, first-delays (get_or bs k b) (drop (suc k) bs) (get_or ds k d) (drop (suc k) ds) xs) at u.delays);
        given = rw (add-one k, drop-set-lt (suc k) ds k e (le_refl (suc k)), ry)
            (rw (drop-cons bs k b hb, drop-cons ds k d hd, first-given (get_or bs k b) (drop (suc k) bs) (get_or ds k d) (drop (suc k) ds) xs) at u.given);
      }

  pub ended : 16 ≤ k → (ds ≡ delays_after bs ds₀ xs₀) × (xs ≡ given_after bs ds₀ xs₀)
  ended h =
      let hb : length bs ≤ k = omega arith in
      let hd : length ds ≤ k = omega (arith, u.long) in
      let eb = drop_of_length-le bs hb in
      let ed = drop_of_length-le ds hd in
      (sym (take_all k ds hd) ∙ sym (append-nil (take k ds)) ∙ rw (eb, ed, no-delays xs) at u.delays, sym (no-given xs) ∙ rw (eb, ed) at u.given)

-- ---- the lists in their structs
pub all-bands : (s : Settings) (m : Registers) (xs : List Float) (ds : List Delay) (ys : List Float)
    → ds ≡ delays_after s.bands m.bands xs → ys ≡ given_after s.bands m.bands xs
    → (record { bands = ds }, ys) ≡ through s m xs
unfolding next output
all-bands s m xs ds ys ed ey =
    let held : List Delay → Registers = λ l. record { bands = l } in
    rw (ed, ey, seen-state held (row_next s.bands) (next s) (λ _ _. refl) m.bands xs, seen-out held (row_next s.bands) (next s) (λ _ _. refl) (row_output s.bands) (output s) (λ _ _. refl) m.bands xs)
