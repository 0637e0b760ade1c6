-- What is answered lies inside the buffer and inside the RIFF chunk, behind 44 bytes of heads; and its rate is one that is accepted.
-- Assumes nothing.
use Prim.Native.Nat.{ℕ, ◌+◌, ◌%◌, ◌≤◌}
use native.Mathlib.Nat.{le_refl, le_trans}
use native.Mathlib.Omega.{arith}
use mathlib.Core.Path.{◌≡◌, refl, sym, ◌∙◌, ap}
use mathlib.Core.Bool.{true}
use mathlib.Core.List.{List}
use lib.Dec.{lit≤}
use lib.ListN.{length}
use Rattle.std.specs.Prelude.{Option, Some, None}
use borrow.Author.Tests.{leb-true}
use Rattle.answer.specs.Figures.{lowest_rate, highest_rate}
use Rattle.words.specs.Words.{word32}
use Rattle.wave.specs.Answers.{found}
use Rattle.wave.specs.Reading.{is_rate, read}
use Rattle.std.proofs.lemmas.Bool.{and_parts}
use Rattle.wave.proofs.Turns.{Kind, skipped, format, Goes}
use Rattle.wave.proofs.Trail.{Trail, here, on, end_of, recording}

pub record Bounds (s : List ℕ) (rate place size : ℕ) : Type 0 where
  pub in_buffer : place + size ≤ length s
  pub in_riff : place + size ≤ word32 s 4 + 8
  pub behind_heads : 44 ≤ place
  pub even_place : place % 2 ≡ 0
  pub even_size : size % 2 ≡ 0
  pub lowest : lowest_rate ≤ rate
  pub highest : rate ≤ highest_rate

module _ {s : List ℕ} {end to : ℕ} {last : Option ℕ} where
  pub ahead : {at : ℕ} {rate : Option ℕ} → Trail s end to last at rate → at ≤ to
  ahead {at} here = le_refl at
  ahead (on g t) = let a = ahead t in omega (arith, g.place)

  even : {at : ℕ} {rate : Option ℕ} → Trail s end to last at rate → at % 2 ≡ 0 → to % 2 ≡ 0
  even here h = h
  even (on g t) h = even t (omega (arith, g.place, h))

-- a rate that is known comes of a `fmt `, and that is 24 bytes long
passing : {s : List ℕ} {end at : ℕ} {rate : Option ℕ} {next : ℕ} {known : Option ℕ} (to : ℕ) → Goes s end at rate next known → Kind s at rate known → rate ≡ None → (known ≡ None → next + 24 ≤ to) → next ≤ to → at + 24 ≤ to
passing to g (skipped f k) z far l = let a = far (k ∙ z) in omega (arith, g.place)
passing to g (format f w b r k) z far l = omega (arith, g.place, w, l)

far : {s : List ℕ} {end to last at : ℕ} {rate : Option ℕ} → Trail s end to (Some last) at rate → rate ≡ None → at + 24 ≤ to
far here z = cc
far {to} (on g t) z = passing to g g.kind z (far t) (ahead t)

-- every rate that is known is one that is accepted
abbrev Accepted : Option ℕ → Type 0
Accepted rate = (r : ℕ) → rate ≡ Some r → is_rate r ≡ true

still : {s : List ℕ} {at : ℕ} {rate known : Option ℕ} → Kind s at rate known → Accepted rate → Accepted known
still (skipped f k) h r e = h r (sym k ∙ e)
still {s} {at} (format f w b a k) h r e = let q : r ≡ word32 s (at + 8 + 4) = cc in ap is_rate q ∙ a

rated : {s : List ℕ} {end to : ℕ} {last : Option ℕ} {at : ℕ} {rate : Option ℕ} → Trail s end to last at rate → Accepted rate → Accepted last
rated here h = h
rated (on g t) h = rated t (still g.kind h)

pub between : (rate : ℕ) → is_rate rate ≡ true → (lowest_rate ≤ rate) × (rate ≤ highest_rate)
unfolding is_rate
between rate h = let r = and_parts _ _ h in (le_trans (lit≤ tt) (leb-true _ _ r.0), le_trans (leb-true _ _ r.1) (lit≤ tt))

pub accepted : (s : List ℕ) {rate place size : ℕ} → read s ≡ found rate place size → is_rate rate ≡ true
accepted s h = rated (recording s h).trail (λ r e. cc) _ refl

pub inside : (s : List ℕ) {rate place size : ℕ} → read s ≡ found rate place size → Bounds s rate place size
unfolding end_of is_rate
inside s {rate} {place} {size} h =
    let w = recording s h in
    let d = w.samples in
    let a = far w.trail refl in
    let e = even w.trail refl in
    let r = between rate (accepted s h) in
    record {
      in_buffer = omega (arith, w.place, d.inside);
      in_riff = omega (arith, w.place, d.inside);
      behind_heads = omega (arith, w.place, a);
      even_place = omega (arith, w.place, e);
      even_size = d.even;
      lowest = r.0;
      highest = r.1;
    }
