-- Only heads count: two buffers that agree before the samples, and are long enough, are read alike.
-- Assumes nothing.
use Prim.Native.Nat.{ℕ, ◌+◌, ◌≤◌, ◌<◌}
use native.Mathlib.Omega.{arith}
use mathlib.Core.Path.{◌≡◌, sym, ◌∙◌, ap}
use mathlib.Core.List.{List, ◌++◌}
use lib.ListN.{length, take, drop, get_or, length-append, length-take}
use lib.Seq.{get_or-take, take-take, take-append-le, take_at, length-take-le}
use borrow.Author.Tests.{le-leb}
use Rattle.std.proofs.lemmas.List.{drop-take}
use Rattle.std.specs.Prelude.{Option, Some}
use Rattle.answer.specs.Names.{bytes, same}
use Rattle.words.specs.Words.{word16, word32}
use Rattle.wave.specs.Answers.{found}
use Rattle.wave.specs.Reading.{is_rate, is_named, is_format, is_wave, read}
use Rattle.wave.proofs.Turns.{Kind, skipped, format, Goes}
use Rattle.wave.proofs.Trail.{Samples, Trail, here, on, end_of, recording, reads}
use Rattle.wave.proofs.Inside.{ahead, inside}

module _ (s t : List ℕ) (p : ℕ) (e : take p s ≡ take p t) where
  byte : (i : ℕ) → i < p → get_or s i 0 ≡ get_or t i 0
  byte i h = sym (get_or-take p s i 0 h) ∙ ap (λ (l : List ℕ). get_or l i 0) e ∙ get_or-take p t i 0 h

  pub word16-same : (at : ℕ) → at + 2 ≤ p → word16 s at ≡ word16 t at
  unfolding word16
  word16-same at h = rw (byte at (omega (arith, h)), byte (at + 1) (omega (arith, h)))

  pub word32-same : (at : ℕ) → at + 4 ≤ p → word32 s at ≡ word32 t at
  unfolding word32
  word32-same at h = rw (word16-same at (omega (arith, h)), word16-same (at + 2) (omega (arith, h)))

  part : (at k : ℕ) → at + k ≤ p → take k (drop at s) ≡ take k (drop at t)
  part at k h =
      sym (drop-take at k s)
      ∙ ap (drop at) (sym (take-take (at + k) p s h) ∙ ap (take (at + k)) e ∙ take-take (at + k) p t h)
      ∙ drop-take at k t

  pub named-same : (at : ℕ) (name : List ℕ) → at + 4 ≤ p → is_named s at name ≡ is_named t at name
  unfolding is_named
  named-same at name h = ap (λ (l : List ℕ). same l name) (part at 4 h)

  pub format-same : (at : ℕ) → at + 16 ≤ p → is_format s at ≡ is_format t at
  unfolding is_format
  format-same at h =
      let tag = word16-same at (omega (arith, h)) in
      let channels = word16-same (at + 2) (omega (arith, h)) in
      let rate = word32-same (at + 4) (omega (arith, h)) in
      let byte-rate = word32-same (at + 8) (omega (arith, h)) in
      let align = word16-same (at + 12) (omega (arith, h)) in
      let bits = word16-same (at + 14) (omega (arith, h)) in
      cc

  kind : {at : ℕ} {rate known : Option ℕ} → at + 8 + word32 s (at + 4) ≤ p → Kind s at rate known → Kind t at rate known
  kind {at} {rate} h (skipped f k) = skipped (rw (named-same at (bytes "fmt ") (omega (arith, h))) at f) k
  kind {at} {rate} h (format f w b r k) =
      let l : at + 24 ≤ p = omega (arith, h, w) in
      format
      (rw (named-same at (bytes "fmt ") (omega (arith, l))) at f)
      (sym (word32-same (at + 4) (omega (arith, l))) ∙ w)
      (sym (format-same (at + 8) (omega (arith, l))) ∙ b)
      (ap is_rate (sym (word32-same (at + 8 + 4) (omega (arith, l)))) ∙ r)
      (k ∙ ap Some (word32-same (at + 8 + 4) (omega (arith, l))))

  going : {end at : ℕ} {rate : Option ℕ} {next : ℕ} {known : Option ℕ} (limit : ℕ) → next ≤ p → next ≤ limit → Goes s end at rate next known → Goes t limit at rate next known
  going {at = at} limit h l g =
      let w = word32-same (at + 4) (omega (arith, h, g.place)) in
      record {
        other = sym (named-same at (bytes "data") (omega (arith, h, g.place))) ∙ g.other;
        head = omega (arith, l, g.place);
        place = rw (← w) g.place;
        inside = l;
        kind = kind (omega (arith, h, g.place)) g.kind;
      }

  trail : {end to : ℕ} {last : Option ℕ} {at : ℕ} {rate : Option ℕ} (limit : ℕ) → to ≤ p → to ≤ limit → Trail s end to last at rate → Trail t limit to last at rate
  trail limit h l here = here
  trail limit h l (on g r) = on (going limit (omega (arith, h, ahead r)) (omega (arith, l, ahead r)) g) (trail limit h l r)

  samples : {end to rate size : ℕ} (limit : ℕ) → to + 8 ≤ p → to + 8 + size ≤ limit → Samples s end to rate size → Samples t limit to rate size
  samples {to = to} limit h l d = record {
    named = sym (named-same to (bytes "data") (omega (arith, h))) ∙ d.named;
    sized = sym (word32-same (to + 4) (omega (arith, h))) ∙ d.sized;
    inside = l;
    even = d.even;
  }

  pub wave-same : 12 ≤ p → 12 ≤ length s → 12 ≤ length t → is_wave s ≡ is_wave t
  unfolding is_wave
  wave-same h k l =
      rw (
        le-leb _ _ k,
        le-leb _ _ l,
        named-same 0 (bytes "RIFF") (omega (arith, h)),
        named-same 8 (bytes "WAVE") (omega (arith, h)),
      )

-- the same bytes before the place of the samples, and room for them: the same answer
pub heads-count : (s t : List ℕ) {rate place size : ℕ} → read s ≡ found rate place size → take place s ≡ take place t → place + size ≤ length t → read t ≡ found rate place size
unfolding end_of
heads-count s t {rate} {place} {size} h e l =
    let i = inside s h in
    let f = recording s h in
    let z = word32-same s t place e 4 (omega (arith, i.behind_heads)) in
    let room : place + size ≤ end_of t = omega (arith, l, i.in_riff, z) in
    reads record {
      wave = sym (wave-same s t place e (omega (arith, i.behind_heads)) (omega (arith, i.in_buffer, i.behind_heads)) (omega (arith, l, i.behind_heads))) ∙ f.wave;
      least = rw z at f.least;
      to = f.to;
      place = f.place;
      trail = trail s t place e (end_of t) (omega (arith, f.place)) (omega (arith, f.place, room)) f.trail;
      samples = samples s t place e (end_of t) (omega (arith, f.place)) (omega (arith, f.place, room)) f.samples;
    }

-- whatever the samples are
pub any_samples : (s : List ℕ) {rate place size : ℕ} (other : List ℕ) → read s ≡ found rate place size → length other ≡ size → read (take place s ++ (other ++ drop (place + size) s)) ≡ found rate place size
any_samples s {rate} {place} {size} other h n =
    let i = inside s h in
    let l : place ≤ length s = omega (arith, i.in_buffer) in
    let m : length (take place s) ≡ place = length-take-le place s l in
    let r = other ++ drop (place + size) s in
    heads-count s (take place s ++ r) h (sym (take_at (take place s) r place m))
    (omega (arith, m, n, length-append (take place s) r, length-append other (drop (place + size) s)))

-- whatever follows them
pub any_rest : (s : List ℕ) {rate place size : ℕ} (k : ℕ) (more : List ℕ) → read s ≡ found rate place size → place + size ≤ k → read (take k s ++ more) ≡ found rate place size
any_rest s {rate} {place} {size} k more h l =
    let i = inside s h in
    let m : place + size ≤ length (take k s) = rw (length-take k s) (omega (arith, i.in_buffer, l)) in
    let a : place ≤ length (take k s) = omega (arith, m) in
    let b : place ≤ k = omega (arith, l) in
    heads-count s (take k s ++ more) h (sym (take-take place k s b) ∙ sym (take-append-le place (take k s) more a))
    (omega (arith, m, length-append (take k s) more))
