-- Which word truncation says: cut of what its tests leave out, exact of what is too large for a fraction, and else whether the number given back is the one taken.
-- Assumes nothing.
use Rattle.std.proofs.Common.{◌≡◌, ℕ, zero, suc, ◌+◌, ◌*◌, ◌/◌, ◌%◌, ◌^◌, ◌<◌, ◌≤◌, min, Bool, true, false, cond, ◌&&◌, T, eqb, ltb, leb, pos, negsuc, sym, refl, ap, ◌∙◌, true≢false, le-div_iff_mul-le, zero-mul, mul-one, div-le_self, mul_right_comm, div-one, arith, ltb-false, ltb-true, eq-eqb, ne_eqb, eqb-true}
use native.Mathlib.Nat.{div-eq_of_lt, eq_of_mul-eq-mul_right}
use lib.Ieee.{Float, nan, inf, fin, binary32, up, down, eq, lt, fits, of_int, to_unsigned}
use lib.Ieee.Bits.{is_true}
use lib.Ieee.Exact.{HasValue}
use lib.Ieee.Fits.{down_pos, and_l, and_r}
use lib.Ieee.Back.{round_whole}
use borrow.Author.Tests.{eqb-false}
use Rattle.float.specs.Truncating.{itself, exactness, number}
use Rattle.float.specs.declared.Exactness.TheVariants.{Exact, Cut}

-- ---- cut: NaN and what is -1 or below, then 2 ^ 64 and above
pub cut_below : (x : Float) → lt (fin true 1 (pos 0)) x ≡ false → Cut ≡ exactness x
unfolding lt eq to_unsigned exactness
cut_below nan h = refl
cut_below (inf true) h = refl
cut_below (inf false) h = absurd (true≢false h)
cut_below (fin true m e) h =
    let l : 1 * 1 * down e ≤ m * up e * 1 = ltb-false (m * up e * 1) (1 * 1 * down e) h in
    rw (ne_eqb (0 * 1 * down e) (m * up e * 1) (λ k. let p = down_pos e in omega arith))
cut_below (fin false m e) h = let l = ltb-false 0 (1 * 1 * down e + m * up e * 1) h in let p = down_pos e in absurd (omega arith)

pub cut-above : (x : Float) → lt (fin true 1 (pos 0)) x ≡ true → lt x (fin false 1 (pos 64)) ≡ false → Cut ≡ exactness x
unfolding lt eq to_unsigned exactness
cut-above nan h k = absurd (true≢false (sym h))
cut-above (inf true) h k = absurd (true≢false (sym h))
cut-above (inf false) h k = refl
cut-above (fin true m e) h k = let l = ltb-false 0 (m * up e * 1 + 18446744073709551616 * down e) k in let p = down_pos e in absurd (omega arith)
cut-above (fin false m e) h k =
    let l : 18446744073709551616 * down e ≤ m * up e * 1 = ltb-false (m * up e * 1) (18446744073709551616 * down e) k in
    let p = down_pos e in
    let g : 18446744073709551616 ≤ m * up e / down e = (le-div_iff_mul-le p).1 (omega arith) in
    let w : min (m * up e / down e) 18446744073709551615 ≡ 18446744073709551615 = omega arith in
    rw w (rw (ne_eqb (18446744073709551615 * 1 * down e) (m * up e * 1) (λ q. omega arith)))

-- ---- exact: from 2 ^ 24 on an f32 has no fraction
pub exact-large : (x : Float) → T (fits binary32 x) → lt x (fin false 1 (pos 64)) ≡ true → 16777216 ≤ to_unsigned 64 x → Exact ≡ exactness x
unfolding lt eq to_unsigned exactness fits
exact-large nan f h k = absurd (omega arith)
exact-large (inf true) f h k = absurd (omega arith)
exact-large (inf false) f h k = absurd (true≢false (sym h))
exact-large (fin true m e) f h k = absurd (omega arith)
exact-large (fin false zero e) f h k = let z : 0 * up e / down e ≡ 0 = div-eq_of_lt (let p = down_pos e in omega arith) in absurd (omega arith)
exact-large (fin false (suc m) (pos i)) f h k =
    let l : suc m * 2 ^ i * 1 < 18446744073709551616 * 1 = ltb-true (suc m * 2 ^ i * 1) (18446744073709551616 * 1) h in
    let w : min (suc m * 2 ^ i / 1) 18446744073709551615 ≡ suc m * 2 ^ i = omega (arith, div-one (suc m * 2 ^ i)) in
    rw w (rw (eq-eqb (suc m * 2 ^ i * 1 * 1) (suc m * 2 ^ i * 1) (omega arith)))
exact-large (fin false (suc m) (negsuc i)) f h k =
    let odd = eqb (suc m % 2) 1 in
    let short = ltb (suc m) 16777216 in
    let fine = leb (2 ^ suc i) (2 ^ 149) in
    let l : suc m < 16777216 = ltb-true (suc m) 16777216 (is_true short (and_r odd short (and_l (odd && short) fine (and_l (odd && short && fine) (ltb (suc m * 1) (2 ^ 128 * 2 ^ suc i)) f)))) in
    let q : suc m * 1 / 2 ^ suc i ≤ suc m * 1 = div-le_self (suc m * 1) (2 ^ suc i) in
    absurd (omega arith)

-- ---- else: n as a float equals x exactly if n does
eqb-times : (a b d : ℕ) → 0 < d → eqb (a * d) (b * d) ≡ eqb a b
eqb-times a b d p = go (eqb a b) refl
  where
    go : (t : Bool) → eqb a b ≡ t → eqb (a * d) (b * d) ≡ t
    go true h = eq-eqb (a * d) (b * d) (ap (λ (z : ℕ). z * d) (eqb-true a b h))
    go false h = ne_eqb (a * d) (b * d) (λ k. eqb-false a b h (eq_of_mul-eq-mul_right d p a b k))

eqb-nought : (a d : ℕ) → 0 < d → eqb (a * d) 0 ≡ eqb a 0
eqb-nought a d p = ap (eqb (a * d)) (sym (zero-mul d)) ∙ eqb-times a 0 d p

pub same_number : (y x : Float) (n : ℕ) → HasValue y false n 1 → eq y x ≡ eq (itself n) x
unfolding eq
same_number nan x n v = absurd v
same_number (inf s) x n v = absurd v
same_number (fin true k d) x n v = absurd (true≢false v.0)
same_number (fin false k d) nan n v = refl
same_number (fin false k d) (inf t) n v = refl
same_number (fin false k d) (fin t m e) n v =
    let a : k * up d * down e ≡ n * 1 * down e * down d = ap (λ (z : ℕ). z * down e) (sym (mul-one (k * up d)) ∙ v.1) ∙ mul_right_comm n (down d) (down e) ∙ ap (λ (z : ℕ). z * down e * down d) (sym (mul-one n)) in
    let b : m * up e * down d ≡ m * up e * 1 * down d = ap (λ (z : ℕ). z * down d) (sym (mul-one (m * up e))) in
    rw (a, b, eqb-times (n * 1 * down e) (m * up e * 1) (down d) (down_pos d), eqb-nought (n * 1 * down e) (down d) (down_pos d))

pub word_back : (x : Float) (n : ℕ) (t : Bool) → n ≡ to_unsigned 64 x → n ≤ 16777216 → eq (of_int binary32 (pos n)) x ≡ t → cond t Exact Cut ≡ exactness x
unfolding exactness of_int
word_back x n t e l h =
    ap (λ (z : Bool). cond z Exact Cut) (sym h ∙ same_number (of_int binary32 (pos n)) x n (round_whole binary32 false n l))
    ∙ ap (λ (z : ℕ). cond (eq (itself z) x) Exact Cut) e

-- ---- what a word says of the test behind it
pub said-exact : (t : Bool) → Exact ≡ cond t Exact Cut → true ≡ t
said-exact true e = refl
said-exact false e = absurd (omega (arith, ap number e))

pub said-cut : (t : Bool) → Cut ≡ cond t Exact Cut → false ≡ t
said-cut false e = refl
said-cut true e = absurd (omega (arith, ap number e))
