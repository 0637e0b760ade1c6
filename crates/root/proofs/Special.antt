-- The root of zeros, infinity, NaN and what is below zero, and what the code's tests say of its argument.
-- Assumes nothing.
use Rattle.std.proofs.Common.{◌≡◌, ℕ, zero, suc, ◌+◌, ◌-◌, ◌*◌, ◌/◌, ◌%◌, ◌^◌, ◌<◌, ◌≤◌, Bool, true, false, T, ltb, leb, ◌⊎◌, ℤ, pos, sym, refl, ap, ◌∙◌, subst, inl, inr, ⊎_elim, true≢false, mod-eq_of_lt, zero-lt-suc, eq-zero-or-pos, eq-or-lt_of_le, mul-pos, lt_of_not-le, arith, le→leb, ltb→lt, lt-ltb, ne_eqb, eq-eqb, ◌||◌}
use lib.Ieee.{Float, nan, inf, fin, Format, binary32, up, down, low, of_bits, to_bits, fits, lt, le, eq}
use lib.Ieee.Bits.{is_true, of_bits-to_bits}
use lib.Ieee.Exact.{HasValue}
use lib.Ieee.Fits.{up_pos}
use lib.Ieee.Scale.{finite}
use Rattle.rounding.specs.Steps.{significand}
use Rattle.rounding.proofs.Nan as Nan
use Rattle.rounding.proofs.Terms.{infinity}
use Rattle.rounding.proofs.Values.{bits-value}
use Rattle.rounding.proofs.Zero as Zero
use Rattle.rounding.proofs.Zero.{is_zero, nought-eq}
use Rattle.root.specs.Root.{root}

nought : of_bits binary32 0 ≡ fin false 0 (pos 0)
nought = Zero.nought binary32 false

endless : of_bits binary32 2139095040 ≡ inf false
endless = infinity binary32

-- x == 0.0
pub root-zero : (f : Format) (x : Float) → eq x (of_bits f 0) ≡ true → x ≡ root f x
unfolding root
root-zero f x h = go x (is_zero f x h)
  where
    go : (x : Float) → (s : Bool) × ((e : ℤ) × (x ≡ fin s 0 e)) → x ≡ root f x
    go x w = w.1.1 ∙ sym (ap (root f) w.1.1)

-- x < 0.0
pub root_below : (f : Format) (x : Float) → T (lt x (fin false 0 (pos 0))) → root f x ≡ nan
unfolding root lt
root_below f nan h = refl
root_below f (inf true) h = refl
root_below f (inf false) h = absurd h
root_below f (fin true zero e) h = absurd (let l = ltb→lt 0 (0 * up e * 1 + 0 * down e) h in omega arith)
root_below f (fin false zero e) h = absurd (let l = ltb→lt (0 * up e * 1) (0 * down e) h in omega arith)
root_below f (fin true (suc m) e) h = refl
root_below f (fin false (suc m) e) h = absurd (let l = ltb→lt (suc m * up e * 1) (0 * down e) h in omega arith)

-- a size that is not zero
sized : (m : ℕ) (e : ℤ) → 0 < suc m * up e
sized m e = mul-pos (zero-lt-suc m) (up_pos e)

above : (m : ℕ) (e : ℤ) → lt (fin false 0 (pos 0)) (fin false (suc m) e) ≡ true
unfolding lt
above m e = lt-ltb (0 * 1 * down e) (suc m * up e * 1) (let p = sized m e in omega arith)

-- 0.0 <= x, and not both 0.0 < x and x < infinity
pub root-own : (x : Float) → le (of_bits binary32 0) x ≡ true → (lt (of_bits binary32 0) x ≡ false) ⊎ (lt x (of_bits binary32 2139095040) ≡ false) → x ≡ root binary32 x
unfolding root lt le eq
root-own x h k = go x (sym (ap (λ (z : Float). le z x) nought) ∙ h) (⊎_elim (λ e. inl (sym (ap (λ (z : Float). lt z x) nought) ∙ e)) (λ e. inr (sym (ap (λ (z : Float). lt x z) endless) ∙ e)) k)
  where
    go : (x : Float) → le (fin false 0 (pos 0)) x ≡ true → (lt (fin false 0 (pos 0)) x ≡ false) ⊎ (lt x (inf false) ≡ false) → x ≡ root binary32 x
    go nan h k = absurd (true≢false (sym h))
    go (inf true) h k = absurd (true≢false (sym h))
    go (inf false) h k = refl
    go (fin s zero e) h k = refl
    go (fin true (suc m) e) h k = absurd (true≢false (sym h ∙ rw (ne_eqb (0 * 1 * down e) (suc m * up e * 1) (λ w. let p = sized m e in omega arith))))
    go (fin false (suc m) e) h (inl k) = absurd (true≢false (sym (above m e) ∙ k))
    go (fin false (suc m) e) h (inr k) = absurd (true≢false k)

le-zero : (s : Bool) (e : ℤ) → le (fin false 0 (pos 0)) (fin s zero e) ≡ true
unfolding le lt eq
le-zero true e = rw (eq-eqb (0 * 1 * down e) (0 * up e * 1) (omega arith), eq-eqb (0 * 1 * down e) 0 (omega arith))
le-zero false e = rw (eq-eqb (0 * 1 * down e) (0 * up e * 1) (omega arith)) (or-true (ltb (0 * 1 * down e) (0 * up e * 1)))
  where
    or-true : (b : Bool) → b || true ≡ true
    or-true true = refl
    or-true false = refl

-- not 0.0 <= x
none : (x : Float) → le (fin false 0 (pos 0)) x ≡ false → root binary32 x ≡ nan
unfolding root le lt eq
none nan h = refl
none (inf true) h = refl
none (inf false) h = absurd (true≢false h)
none (fin s zero e) h = absurd (true≢false (sym (le-zero s e) ∙ h))
none (fin true (suc m) e) h = refl
none (fin false (suc m) e) h = absurd (true≢false (sym (rw (above m e)) ∙ h))

pub root_none : (x : Float) → le (of_bits binary32 0) x ≡ false → root binary32 x ≡ nan
root_none x h = none x (sym (ap (λ (z : Float). le z x) nought) ∙ h)

-- 0.0 < x and x < infinity
abbrev Positive : Float → Type 0
Positive x = (m : ℕ) × (e : ℤ) × (x ≡ fin false m e)

positive : (x : Float) → lt (fin false 0 (pos 0)) x ≡ true → lt x (inf false) ≡ true → Positive x
unfolding lt
positive nan h k = absurd (true≢false (sym h))
positive (inf true) h k = absurd (true≢false (sym h))
positive (inf false) h k = absurd (true≢false (sym k))
positive (fin false m e) h k = (m, e, refl)
positive (fin true m e) h k = absurd (true≢false (sym h))

no_less : lt (fin false 0 (pos 0)) (fin false 0 (pos 0)) ≡ false
unfolding lt
no_less = refl

-- a finite value's pattern without a sign lies below the infinity's
finite-under : (b : ℕ) → b < 2147483648 → T (finite (of_bits binary32 b)) → b < 2139095040
finite-under b h g = lt_of_not-le (λ (l : 2139095040 ≤ b). elim (eq-or-lt_of_le l) [
  | inl e ↦ subst (λ (z : Float). T (finite z)) (ap (of_bits binary32) (sym e) ∙ endless) g
  | inr k ↦ subst (λ (z : Float). T (finite z)) (Nan.above binary32 b (subst (λ (z : ℕ). 2139095040 < z) (sym (mod-eq_of_lt h)) k)) g
])

of-bits : (b : ℕ) (x : Float) → Positive x → of_bits binary32 b ≡ x → lt (fin false 0 (pos 0)) x ≡ true → (0 < b) × (b < 2139095040)
of-bits b x (m, e, p) i l =
    let is : of_bits binary32 b ≡ fin false m e = i ∙ p in
    let fine : T (finite (of_bits binary32 b)) = subst (λ (z : Float). T (finite z)) (sym is) tt in
    (not-zero (eq-zero-or-pos b), finite-under b (lt_of_not-le (λ (g : 2147483648 ≤ b). true≢false (sym (is_true (leb 2147483648 b) (le→leb 2147483648 b g)) ∙ sym (sign is fine)))) fine)
  where
    not-zero : (b ≡ 0) ⊎ (0 < b) → 0 < b
    not-zero (inl z) = absurd (true≢false (sym l ∙ ap (λ (w : Float). lt (fin false 0 (pos 0)) w) (sym i ∙ ap (of_bits binary32) z ∙ nought) ∙ no_less))
    not-zero (inr h) = h

    sign : of_bits binary32 b ≡ fin false m e → T (finite (of_bits binary32 b)) → false ≡ leb 2147483648 b
    sign is fine = (subst (λ (z : Float). HasValue z (leb 2147483648 b) (significand 8388608 (b % 2147483648) * 2 ^ (b % 2147483648 / 8388608 - 1)) (2 ^ low binary32)) is (bits-value binary32 b fine)).0

pub above_zero : (x : Float) → T (fits binary32 x) → lt (of_bits binary32 0) x ≡ true → lt x (of_bits binary32 2139095040) ≡ true → (0 < to_bits binary32 x) × (to_bits binary32 x < 2139095040)
above_zero x f h k =
    let l = sym (ap (λ (z : Float). lt z x) nought) ∙ h in
    of-bits (to_bits binary32 x) x (positive x l (sym (ap (λ (z : Float). lt x z) endless) ∙ k)) (of_bits-to_bits binary32 x f) l
