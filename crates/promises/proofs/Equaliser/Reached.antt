-- Settings of sixteen bands that 9 accepts are left by some making and sixteen settings: a band that it accepts is what a setting of its value and its numbers leaves.
-- Assumes nothing.
use mathlib.Core.Path.{◌≡◌, refl, sym, ap, ◌∙◌}
use mathlib.Core.Bool.{Bool, true, false, ◌&&◌, cond}
use mathlib.Core.List.{List, [], ◌∷◌, ◌++◌, append_assoc}
use Prim.Native.Nat.{ℕ, suc, ◌+◌, ◌<◌}
use native.Mathlib.Omega.{arith}
use lib.Dec.{T, eqb}
use lib.ListN.{length, length-append}
use lib.Seq.{set_at}
use lib.Ieee.{Float, binary64, fits, to_bits, of_bits}
use lib.Ieee.Bits.{of_bits-to_bits}
use borrow.Author.Tests.{eqb-true, lt-ltb}
use Rattle.answer.specs.Figures.{nought, one}
use Rattle.answer.specs.Checks.{is_rate}
use Rattle.answer.specs.Told.{Told, done}
use Rattle.eq_bands.specs.Bands.{in_its_range, worked, is_unity, passthrough, taken, is_passthrough, band_settable, all_settable, settable}
use Rattle.eq_bands.specs.declared.Numbers.{Numbers}
use Rattle.eq_bands.specs.declared.Band.{Band}
use Rattle.eq.specs.States.{acceptable, made, with_band}
use Rattle.eq.specs.Calls.{make, set_band}
use Rattle.eq.specs.declared.Equaliser.{Equaliser}
use Rattle.promises.specs.Equaliser.{BandSet, set_all, ByCalls, NumbersF64, InF64}
use Rattle.promises.proofs.Equaliser.Settable.{both_true, made-accepted, set-accepted}

-- ---- a passthrough to the bit is one
same_bits : (x y : Float) → T (fits binary64 x) → T (fits binary64 y) → to_bits binary64 x ≡ to_bits binary64 y → x ≡ y
same_bits x y p q e = sym (of_bits-to_bits binary64 x p) ∙ ap (of_bits binary64) e ∙ of_bits-to_bits binary64 y q

nought-fits : T (fits binary64 nought)
unfolding fits
nought-fits = tt

one-fits : T (fits binary64 one)
unfolding fits
one-fits = tt

nought-bits : to_bits binary64 nought ≡ 0
unfolding to_bits
nought-bits = refl

is_one : (x : Float) → T (fits binary64 x) → eqb (to_bits binary64 x) (to_bits binary64 one) ≡ true → x ≡ one
is_one x p h = same_bits x one p one-fits (eqb-true (to_bits binary64 x) (to_bits binary64 one) h)

is-nought : (x : Float) → T (fits binary64 x) → eqb (to_bits binary64 x) 0 ≡ true → x ≡ nought
is-nought x p h = same_bits x nought p nought-fits (eqb-true (to_bits binary64 x) 0 h ∙ sym nought-bits)

numbers-are : {b0 b1 b2 a1 a2 : Float} → b0 ≡ one → b1 ≡ nought → b2 ≡ nought → a1 ≡ nought → a2 ≡ nought → record { b0 = b0; b1 = b1; b2 = b2; a1 = a1; a2 = a2 } ≡ passthrough
numbers-are p q r s t = rw (p, q, r, s, t)

both : {a b : Bool} → (a && b) ≡ true → (a ≡ true) × (b ≡ true)
both {a} {b} h = both_true a b h

is-passthrough : (n : Numbers) → NumbersF64 n → is_passthrough n ≡ true → n ≡ passthrough
unfolding is_passthrough
is-passthrough n f h =
    let h0 = both h in
    let h1 = both h0.1 in
    let h2 = both h1.1 in
    let h3 = both h2.1 in
    numbers-are (is_one n.b0 f.0 h0.0) (is-nought n.b1 f.1 h1.0) (is-nought n.b2 f.2 h2.0) (is-nought n.a1 f.3 h3.0) (is-nought n.a2 f.4 h3.1)

passthrough-worked : worked passthrough ≡ true
unfolding worked
passthrough-worked = refl

-- ---- a band that 9 accepts, and the setting that leaves it
record Settable (b : Band) : Type 0 where
  in-range : in_its_range b.value ≡ true
  numbers : cond (is_unity b.value) (is_passthrough b.numbers) (worked b.numbers) ≡ true

band-parts : (b : Band) → band_settable b ≡ true → Settable b
unfolding band_settable
band-parts b h = let p = both h in record { in-range = p.0; numbers = p.1 }

module _ (b : Band) (f : NumbersF64 b.numbers) (p : Settable b) where
  taken_back : taken b.value b.numbers ≡ b
  unfolding taken
  taken_back = go (is_unity b.value) p.numbers
    where
      go : (u : Bool) → cond u (is_passthrough b.numbers) (worked b.numbers) ≡ true → record { value = b.value; numbers = cond u passthrough b.numbers } ≡ b
      go true h = ap (λ (n : Numbers). record { value = b.value; numbers = n }) (sym (is-passthrough b.numbers f h))
      go false h = refl

  worked-numbers : worked b.numbers ≡ true
  worked-numbers = go (is_unity b.value) p.numbers
    where
      go : (u : Bool) → cond u (is_passthrough b.numbers) (worked b.numbers) ≡ true → worked b.numbers ≡ true
      go true h = rw (is-passthrough b.numbers f h) passthrough-worked
      go false h = h

-- ---- band after band, from band k on
abbrev numbered : ℕ → List Band → List BandSet
numbered k [] = []
numbered k (b ∷ bs) = record { band = k; value = b.value; numbers = b.numbers } ∷ numbered (suc k) bs

set-done : (e : Equaliser) (i : ℕ) (b : Band) → NumbersF64 b.numbers → acceptable e ≡ true → i < 16 → Settable b → set_band e i b.value b.numbers ≡ done (with_band e i b.value b.numbers)
unfolding set_band
set-done e i b f a l p = rw (a, lt-ltb i 16 l, p.in-range, worked-numbers b f p)

module _ (e : Equaliser) (b : Band) (front rest : List Band) (r : Band) (k : ℕ) (at : length front ≡ k) where
  bands-after : NumbersF64 b.numbers → Settable b → e.settings.bands ≡ front ++ r ∷ rest → (with_band e k b.value b.numbers).settings.bands ≡ (front ++ b ∷ []) ++ rest
  unfolding with_band
  bands-after f p h = rw (h, taken_back b f p, append_assoc front (b ∷ []) rest) (set_at front r rest b k at)

-- the bands of front stand, and those of bs take the places of the rest
all_set : (bs front rest : List Band) (k : ℕ) (e : Equaliser) → length front ≡ k → e.settings.bands ≡ front ++ rest → length rest ≡ length bs → k + length bs ≡ 16 → acceptable e ≡ true → InF64 bs → all_settable bs ≡ true
    → (set_all e (numbered k bs)).settings ≡ record { rate = e.settings.rate; bands = front ++ bs }
unfolding all_settable with_band
all_set [] front [] k e at h l n a f s = ap (λ (bands : List Band). record { rate = e.settings.rate; bands = bands }) h
all_set [] front (r ∷ rest) k e at h l n a f s = absurd (omega arith)
all_set (b ∷ bs) front [] k e at h l n a f s = absurd (omega arith)
all_set (b ∷ bs) front (r ∷ rest) k e at h l n a f s =
    let both-set = both_true (band_settable b) (all_settable bs) s in
    let p = band-parts b both-set.0 in
    let accepted = set-accepted e k b.value b.numbers a p.in-range (worked-numbers b f.0 p) in
    ap (λ (t : Told Equaliser). (set_all t.state (numbered (suc k) bs)).settings) (set-done e k b f.0 a (omega arith) p)
    ∙ all_set bs (front ++ b ∷ []) rest (suc k) (with_band e k b.value b.numbers) (omega (arith, length-append front (b ∷ []))) (bands-after e b front rest r k at f.0 p h) (omega arith) (omega arith) accepted f.1 both-set.1
    ∙ ap (λ (bands : List Band). record { rate = e.settings.rate; bands = bands }) (append_assoc front (b ∷ []) bs)

-- ---- settings that 9 accepts
pub reached : (e : Equaliser) → length e.settings.bands ≡ 16 → InF64 e.settings.bands → acceptable e ≡ true → ByCalls e
unfolding acceptable settable make
reached e sixteen f a =
    let p = both_true (is_rate e.settings.rate) (all_settable e.settings.bands) a in
    let rate = e.settings.rate in
    let bands = e.settings.bands in
    record {
      rate = rate;
      sets = numbered 0 bands;
      made = rw p.0;
      same = rw p.0 (all_set bands [] (made rate).settings.bands 0 (made rate) refl refl (sym sixteen) (omega arith) (made-accepted rate p.0) f p.1);
    }
