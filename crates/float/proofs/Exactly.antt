-- The words exact and cut keep what specs/Exactly.antt promises.
-- Assumes nothing.
use Rattle.std.proofs.Common.{◌≡◌, ℕ, suc, ◌+◌, ◌*◌, ◌/◌, ◌^◌, ◌<◌, ◌≤◌, min, Bool, true, false, cond, ◌&&◌, ◌||◌, T, eqb, ltb, sym, refl, ap, ◌∙◌, subst, mul-le-mul_right, div-lt_iff_lt-mul, zero-mul, mul-one, mul-div_cancel, arith, ltb-true, le-ltb, lt-ltb, ne_eqb, eqb-true}
use native.Mathlib.Nat.{eq_of_mul-eq-mul_right}
use lib.Ieee.{Float, nan, inf, fin, up, down, eq, lt, le, to_unsigned}
use lib.Ieee.Bits.{is_true}
use lib.Ieee.Fits.{down_pos, and_l, and_r}
use Rattle.float.specs.Truncating.{itself, exactness, number}
use Rattle.float.specs.Exactly.{Exactly, ThrownAway, Words}
use Rattle.float.specs.declared.Exactness.{Exactness}
use Rattle.float.specs.declared.Exactness.TheVariants.{Exact, Cut}
use Rattle.float.proofs.Truncating.{cut-above, said-exact}

-- ---- exact
module _ (m : ℕ) (n d : ℕ) (p : 0 < d) where
  quotient : n * 1 * d ≡ m * 1 → m / d ≡ n
  quotient h = ap (λ (z : ℕ). z / d) (sym (mul-one m) ∙ sym h ∙ ap (λ (z : ℕ). z * d) (mul-one n)) ∙ mul-div_cancel n p

  nothing : n * 1 * d ≡ 0 → 0 ≡ n
  nothing h = sym (eq_of_mul-eq-mul_right d p n 0 (ap (λ (z : ℕ). z * d) (sym (mul-one n)) ∙ h ∙ sym (zero-mul d)))

given_back : (x : Float) (n : ℕ) → T (eq (itself n) x) → n < 2 ^ 64 → to_unsigned 64 x ≡ n
unfolding eq to_unsigned
given_back nan n h l = absurd h
given_back (inf s) n h l = absurd h
given_back (fin false m e) n h l =
    let same = eqb (n * 1 * down e) (m * up e * 1) in
    let q = quotient (m * up e) n (down e) (down_pos e) (eqb-true (n * 1 * down e) (m * up e * 1) (is_true same (and_l same true h))) in
    omega arith
given_back (fin true m e) n h l =
    let same = eqb (n * 1 * down e) (m * up e * 1) in
    let none = eqb (n * 1 * down e) 0 in
    nothing m n (down e) (down_pos e) (eqb-true (n * 1 * down e) 0 (is_true none (and_r same none h)))

pub exactly : Exactly
unfolding exactness
exactly = record {
  whole = λ x n h l. (given_back x n h l, ap (λ (z : ℕ). cond (eq (itself z) x) Exact Cut) (given_back x n h l) ∙ ap (λ (t : Bool). cond t Exact Cut) (is_true (eq (itself n) x) h));
  only = λ x e. subst T (said-exact (eq (itself (to_unsigned 64 x)) x) (sym e)) tt;
}

-- ---- cut
fraction : (x : Float) (n : ℕ) → T (lt (itself n) x) → T (lt x (itself (suc n))) → exactness x ≡ Cut
unfolding lt eq to_unsigned exactness
fraction nan n h k = absurd h
fraction (inf true) n h k = absurd h
fraction (inf false) n h k = absurd k
fraction (fin true m e) n h k = absurd h
fraction (fin false m e) n h k =
    let t = min (m * up e / down e) 18446744073709551615 in
    let above : n * 1 * down e < m * up e * 1 = ltb-true (n * 1 * down e) (m * up e * 1) (is_true _ h) in
    let below : m * up e * 1 < suc n * 1 * down e = ltb-true (m * up e * 1) (suc n * 1 * down e) (is_true _ k) in
    let q : m * up e / down e < suc n = (div-lt_iff_lt-mul (down_pos e)).1 (omega arith) in
    let l : t * 1 * down e ≤ n * 1 * down e = mul-le-mul_right (down e) (omega arith) in
    rw (ne_eqb (t * 1 * down e) (m * up e * 1) (λ w. omega arith))

negative : (x : Float) → T (lt x (itself 0)) → exactness x ≡ Cut
unfolding lt eq to_unsigned exactness
negative nan h = absurd h
negative (inf true) h = refl
negative (inf false) h = absurd h
negative (fin true m e) h =
    let l : 0 < m * up e * 1 + 0 * 1 * down e = ltb-true 0 (m * up e * 1 + 0 * 1 * down e) (is_true _ h) in
    rw (ne_eqb (0 * 1 * down e) (m * up e * 1) (λ w. omega arith))
negative (fin false m e) h = let l = ltb-true (m * up e * 1) (0 * 1 * down e) (is_true _ h) in absurd (omega arith)

-- less or equal, of sizes
at_least : (a b : ℕ) → T (ltb a b || eqb a b && true) → a ≤ b
at_least a b h = go (ltb a b) refl (eqb a b) refl h
  where
    go : (t : Bool) → ltb a b ≡ t → (s : Bool) → eqb a b ≡ s → T (t || s && true) → a ≤ b
    go true l s e h = let w = ltb-true a b l in omega arith
    go false l true e h = let w = eqb-true a b e in omega arith
    go false l false e h = absurd h

excess : (x : Float) → T (le (itself (2 ^ 64)) x) → exactness x ≡ Cut
unfolding le lt eq to_unsigned exactness
excess nan h = absurd h
excess (inf true) h = absurd h
excess (inf false) h = refl
excess (fin true m e) h =
    let same = eqb (18446744073709551616 * 1 * down e) (m * up e * 1) in
    let none = eqb (18446744073709551616 * 1 * down e) 0 in
    let z = eqb-true (18446744073709551616 * 1 * down e) 0 (is_true none (and_r same none h)) in
    let p = down_pos e in
    absurd (omega arith)
excess (fin false m e) h =
    let l = at_least (18446744073709551616 * 1 * down e) (m * up e * 1) h in
    let p = down_pos e in
    sym (cut-above (fin false m e) (lt-ltb 0 (1 * 1 * down e + m * up e * 1) (omega arith)) (le-ltb (m * up e * 1) (18446744073709551616 * down e) (omega arith)))

pub thrown-away : ThrownAway
unfolding exactness eq to_unsigned
thrown-away = record {
  fraction = fraction;
  negative = negative;
  of_nan = refl;
  infinite = λ s. refl;
  excess = excess;
}

-- ---- numbers
apart : (v w : Exactness) → number v ≡ number w → v ≡ w
apart Exact Exact e = refl
apart Exact Cut e = absurd (omega arith)
apart Cut Exact e = absurd (omega arith)
apart Cut Cut e = refl

never_nought : (w : Exactness) → number w ≡ 0 → ⊥
never_nought Exact e = omega arith
never_nought Cut e = omega arith

pub words : Words
words = record { apart = apart; never_nought = never_nought }
