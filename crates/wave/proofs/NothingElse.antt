-- What is read is a recording of the grammar, and nothing else is read.
-- Assumes nothing.
use Prim.Native.Nat.{ℕ, ◌+◌, ◌-◌, ◌*◌, ◌%◌, ◌≤◌}
use native.Mathlib.Nat.{add_assoc}
use native.Mathlib.Omega.{arith}
use mathlib.Core.Path.{◌≡◌, refl, sym, ◌∙◌, ap, subst}
use mathlib.Core.Bool.{true, false, ◌&&◌, true≢false}
use Rattle.std.specs.Prelude.{Option, Some, None, is_none}
use mathlib.Core.List.{List, [], ◌∷◌, ◌++◌, append_assoc}
use lib.Dec.{eqb, leb}
use lib.ListN.{length, take, drop, length-append, length-drop, take-append-drop}
use lib.Seq.{drop-drop, length-take-le}
use borrow.Author.Tests.{eqb-true}
use Rattle.answer.specs.Names.{bytes}
use Rattle.answer.proofs.Names.{same-equal}
use Rattle.words.specs.Words.{Bytes, word16, word32, le16, le32}
use Rattle.words.proofs.Bytes.{le16-word16, le32-word32, small32}
use Rattle.wave.specs.Answers.{found}
use Rattle.wave.specs.Reading.{is_named, is_format, is_wave, read}
use Rattle.wave.specs.Grammar as Grammar
use Rattle.wave.specs.Grammar.{Chunk, Formed, whole, joined, Each, none, more, IsWave}
use Rattle.std.proofs.lemmas.Bool.{and_parts}
use Rattle.wave.proofs.Tests.{long as long-enough}
use Rattle.wave.proofs.Passed.{Passed, each, passed-unknown, passed-skipped}
use Rattle.wave.proofs.Turns.{Kind, skipped, format, Goes}
use Rattle.wave.proofs.Trail.{Trail, here, on, end_of, recording}
use Rattle.wave.proofs.Inside.{inside}

-- the chunk that a head says
abbrev chunk_at : List ℕ → ℕ → Chunk
chunk_at s at = record { name = take 4 (drop at s); body = take (word32 s (at + 4)) (drop (at + 8) s); pad = take (word32 s (at + 4) % 2) (drop (at + 8 + word32 s (at + 4)) s) }

-- chunks that are skipped from a place on, and then the rest
record Chain (s : List ℕ) (at : ℕ) (rate : Option ℕ) (to : ℕ) (last : Option ℕ) : Type 0 where
  pub chunks : List Chunk
  pub is : drop at s ≡ joined chunks ++ drop to s
  pub ends : to ≡ at + length (joined chunks)
  pub all : Each (Passed rate) chunks
  pub same-rate : last ≡ rate

-- such chunks, the `fmt `, such chunks, and then the rest
record Parts (s : List ℕ) (at to last : ℕ) : Type 0 where
  pub before : List Chunk
  pub between : List Chunk
  pub is : drop at s ≡ joined before ++ (Grammar.format last ++ (joined between ++ drop to s))
  pub ends : to ≡ at + length (joined before) + 24 + length (joined between)
  pub first : Each (Passed None) before
  pub later : Each (Passed (Some last)) between

module _ (s : List ℕ) (small : Bytes s) where
  split : (k j : ℕ) → drop k s ≡ take j (drop k s) ++ drop (k + j) s
  split k j = sym (take-append-drop j (drop k s)) ∙ ap (λ (l : List ℕ). take j (drop k s) ++ l) (drop-drop j k s)

  two : (k j n : ℕ) → k + 2 ≡ j → k + 2 ≤ length s → word16 s k ≡ n → drop k s ≡ le16 n ++ drop j s
  two k j n e l w = le16-word16 s small k l ∙ ap (λ (i : ℕ). le16 i ++ drop (k + 2) s) w ∙ ap (λ (i : ℕ). le16 n ++ drop i s) e

  four : (k j n : ℕ) → k + 4 ≡ j → k + 4 ≤ length s → word32 s k ≡ n → drop k s ≡ le32 n ++ drop j s
  four k j n e l w = le32-word32 s small k l ∙ ap (λ (i : ℕ). le32 i ++ drop (k + 4) s) w ∙ ap (λ (i : ℕ). le32 n ++ drop i s) e

  named : (at : ℕ) (name : List ℕ) → is_named s at name ≡ true → drop at s ≡ name ++ drop (at + 4) s
  unfolding is_named
  named at name h = split at 4 ∙ ap (λ (l : List ℕ). l ++ drop (at + 4) s) (same-equal (take 4 (drop at s)) name h)

  module _ {end at : ℕ} {rate : Option ℕ} {next : ℕ} {known : Option ℕ} (inner : end ≤ length s) (g : Goes s end at rate next known) where
    part : (k j : ℕ) → k + j ≤ length s → length (take j (drop k s)) ≡ j
    part k j l = length-take-le j (drop k s) (omega (arith, l, length-drop k s))

    formed : Formed (chunk_at s at)
    formed =
        let n = part at 4 (omega (arith, inner, g.head)) in
        let b = part (at + 8) (word32 s (at + 4)) (omega (arith, inner, g.inside, g.place)) in
        let p = part (at + 8 + word32 s (at + 4)) (word32 s (at + 4) % 2) (omega (arith, inner, g.inside, g.place)) in
        record { named = n; sized = rw b (small32 s small (at + 4)); padded = rw b p }

    cut : drop at s ≡ whole (chunk_at s at) ++ drop next s
    cut =
        let c = chunk_at s at in
        let z = word32 s (at + 4) in
        let b : length c.body ≡ z = part (at + 8) z (omega (arith, inner, g.inside, g.place)) in
        let e₁ : drop (at + 4) s ≡ le32 (length c.body) ++ drop (at + 8) s = four (at + 4) (at + 8) (length c.body) (add_assoc at 4 4) (omega (arith, inner, g.head)) (sym b) in
        let e₂ : drop (at + 8) s ≡ c.body ++ drop (at + 8 + z) s = split (at + 8) z in
        let e₃ : drop (at + 8 + z) s ≡ c.pad ++ drop next s = split (at + 8 + z) (z % 2) ∙ ap (λ (i : ℕ). c.pad ++ drop i s) (sym g.place) in
        split at 4
        ∙ ap (λ (l : List ℕ). c.name ++ l) (e₁ ∙ ap (λ (l : List ℕ). le32 (length c.body) ++ l) (e₂ ∙ ap (λ (l : List ℕ). c.body ++ l) e₃ ∙ sym (append_assoc c.body c.pad (drop next s))))
        ∙ sym (append_assoc c.name (le32 (length c.body) ++ (c.body ++ c.pad)) (drop next s))

    long : next ≡ at + length (whole (chunk_at s at))
    long =
        let c = chunk_at s at in
        let f = formed in
        let b = part (at + 8) (word32 s (at + 4)) (omega (arith, inner, g.inside, g.place)) in
        omega (arith, g.place, f.named, f.padded, b, length-append c.name (le32 (length c.body) ++ (c.body ++ c.pad)), length-append c.body c.pad)

    is-skipped : (is_named s at (bytes "fmt ") && is_none rate) ≡ false → Passed rate (chunk_at s at)
    unfolding is_named
    is-skipped f = record { formed = formed; no_data = g.other; no_format = f }

  is-format : {end at : ℕ} {rate : Option ℕ} {next : ℕ} {known : Option ℕ} → end ≤ length s → Goes s end at rate next known → is_named s at (bytes "fmt ") ≡ true → word32 s (at + 4) ≡ 16 → is_format s (at + 8) ≡ true → (drop at s ≡ Grammar.format (word32 s (at + 8 + 4)) ++ drop next s) × (next ≡ at + 24)
  unfolding is_format
  is-format {end} {at} {rate} {next} {known} inner g n z f =
      let a = at + 8 in
      let r = word32 s (a + 4) in
      let m : next ≡ at + 24 = omega (arith, g.place, z) in
      let l : a + 16 ≤ length s = omega (arith, m, inner, g.inside) in
      let f₁ = and_parts (eqb (word16 s a) 1) _ f in
      let f₂ = and_parts (eqb (word16 s (a + 2)) 1) _ f₁.1 in
      let f₃ = and_parts (eqb (word32 s (a + 8)) (word32 s (a + 4) * 2)) _ f₂.1 in
      let f₄ = and_parts (eqb (word16 s (a + 12)) 2) (eqb (word16 s (a + 14)) 16) f₃.1 in
      let w₁ = eqb-true (word16 s a) 1 f₁.0 in
      let w₂ = eqb-true (word16 s (a + 2)) 1 f₂.0 in
      let w₃ = eqb-true (word32 s (a + 8)) (word32 s (a + 4) * 2) f₃.0 in
      let w₄ = eqb-true (word16 s (a + 12)) 2 f₄.0 in
      let w₅ = eqb-true (word16 s (a + 14)) 16 f₄.1 in
      let e₀ = named at (bytes "fmt ") n in
      let e₁ = four (at + 4) a 16 (add_assoc at 4 4) (omega (arith, l)) z in
      let e₂ = two a (a + 2) 1 refl (omega (arith, l)) w₁ in
      let e₃ = two (a + 2) (a + 4) 1 (add_assoc a 2 2) (omega (arith, l)) w₂ in
      let e₄ = four (a + 4) (a + 8) r (add_assoc a 4 4) (omega (arith, l)) refl in
      let e₅ = four (a + 8) (a + 12) (r * 2) (add_assoc a 8 4) (omega (arith, l)) w₃ in
      let e₆ = two (a + 12) (a + 14) 2 (add_assoc a 12 2) (omega (arith, l)) w₄ in
      let e₇ = two (a + 14) next 16 (omega (arith, m)) (omega (arith, l)) w₅ in
      (e₀ ∙ ap (λ (x : List ℕ). bytes "fmt " ++ x) (e₁ ∙ ap (λ (x : List ℕ). le32 16 ++ x) (e₂ ∙ ap (λ (x : List ℕ). le16 1 ++ x) (e₃ ∙ ap (λ (x : List ℕ). le16 1 ++ x) (e₄ ∙ ap (λ (x : List ℕ). le32 r ++ x) (e₅ ∙ ap (λ (x : List ℕ). le32 (r * 2) ++ x) (e₆ ∙ ap (λ (x : List ℕ). le16 2 ++ x) e₇)))))), m)

  module _ (end : ℕ) (inner : end ≤ length s) where
    longer : {at : ℕ} {rate : Option ℕ} {next : ℕ} {known : Option ℕ} {to : ℕ} {last : Option ℕ} (q : ℕ) → rate ≡ Some q → Goes s end at rate next known → Kind s at rate known → (known ≡ Some q → Chain s next known to last) → Chain s at rate to last
    longer {at} {rate} {next} {known} {to} {last} q h g (skipped f k) rest =
        let r = rest (k ∙ h) in
        let c = chunk_at s at in
        record {
          chunks = c ∷ r.chunks;
          is = cut inner g ∙ ap (λ (l : List ℕ). whole c ++ l) r.is ∙ sym (append_assoc (whole c) (joined r.chunks) (drop to s));
          ends = omega (arith, r.ends, long inner g, length-append (whole c) (joined r.chunks));
          all = more (is-skipped inner g f) (subst (λ (w : Option ℕ). Each (Passed w) r.chunks) k r.all);
          same-rate = r.same-rate ∙ k;
        }
    longer {at} {rate} q h g (format f z b r k) rest =
        let e : is_none rate ≡ true = (and_parts (is_named s at (bytes "fmt ")) (is_none rate) f).1 in
        absurd (true≢false (sym (rw h at e)))

    chain : {to : ℕ} {last : Option ℕ} {at : ℕ} {rate : Option ℕ} (q : ℕ) → rate ≡ Some q → Trail s end to last at rate → Chain s at rate to last
    chain q h here = record { chunks = []; is = refl; ends = omega arith; all = none; same-rate = refl }
    chain q h (on g t) = longer q h g g.kind (λ l. chain q l t)

    begun : {at : ℕ} {rate : Option ℕ} {next : ℕ} {known : Option ℕ} {to last : ℕ} → rate ≡ None → Goes s end at rate next known → Kind s at rate known → (known ≡ None → Parts s next to last) → ((q : ℕ) → known ≡ Some q → Chain s next known to (Some last)) → Parts s at to last
    begun {at} {rate} {next} {known} {to} {last} o g (skipped f k) later after =
        let r = later (k ∙ o) in
        let c = chunk_at s at in
        record {
          before = c ∷ r.before;
          between = r.between;
          is = cut inner g ∙ ap (λ (l : List ℕ). whole c ++ l) r.is ∙ sym (append_assoc (whole c) (joined r.before) (Grammar.format last ++ (joined r.between ++ drop to s)));
          ends = omega (arith, r.ends, long inner g, length-append (whole c) (joined r.before));
          first = more (rw o at (is-skipped inner g f)) r.first;
          later = r.later;
        }
    begun {at} {rate} {next} {known} {to} {last} o g (format f z b a k) later after =
        let r = after _ k in
        let e = is-format inner g (and_parts (is_named s at (bytes "fmt ")) (is_none rate) f).0 z b in
        let whose : last ≡ word32 s (at + 8 + 4) = let w = r.same-rate ∙ k in cc in
        record {
          before = [];
          between = r.chunks;
          is = rw whose (e.0 ∙ ap (λ (l : List ℕ). Grammar.format (word32 s (at + 8 + 4)) ++ l) r.is);
          ends = omega (arith, r.ends, e.1);
          first = none;
          later = rw r.same-rate r.all;
        }

    parts : {to last at : ℕ} {rate : Option ℕ} → rate ≡ None → Trail s end to (Some last) at rate → Parts s at to last
    parts o here = cc
    parts o (on g t) = begun o g g.kind (λ l. parts l t) (λ q l. chain q l t)

-- ---- of a list of bytes
module _ (s : List ℕ) (small : Bytes s) {rate place size : ℕ} (h : read s ≡ found rate place size) where
  data_head : (to : ℕ) → place ≡ to + 8 → is_named s to (bytes "data") ≡ true → word32 s (to + 4) ≡ size → drop to s ≡ bytes "data" ++ (le32 size ++ drop (to + 8) s)
  data_head to p n z =
      let i = inside s h in
      named s small to (bytes "data") n ∙ ap (λ (x : List ℕ). bytes "data" ++ x) (four s small (to + 4) (to + 8) size (add_assoc to 4 4) (omega (arith, i.in_buffer, p)) z)

  -- the samples' head stands before them
  pub head-before : take 8 (drop (place - 8) s) ≡ bytes "data" ++ le32 size
  head-before =
      let w = recording s h in
      let d = w.samples in
      let e : place - 8 ≡ w.to = omega (arith, w.place) in
      rw e (ap (take 8) (data_head w.to w.place d.named d.sized))

  pub nothing_else : IsWave s rate place size
  unfolding end_of is_wave
  nothing_else =
      let i = inside s h in
      let w = recording s h in
      let d = w.samples in
      let to = w.to in
      let p = parts s small (end_of s) (omega arith) refl w.trail in
      let rest = drop (to + 8) s in
      let names = and_parts (is_named s 0 (bytes "RIFF")) (is_named s 8 (bytes "WAVE")) (and_parts (leb 12 (length s)) _ w.wave).1 in
      let heads : s ≡ bytes "RIFF" ++ (le32 (word32 s 4) ++ (bytes "WAVE" ++ drop 12 s)) = named s small 0 (bytes "RIFF") names.0 ∙ ap (λ (x : List ℕ). bytes "RIFF" ++ x) (four s small 4 8 (word32 s 4) refl (omega (arith, long-enough s w.wave)) refl ∙ ap (λ (x : List ℕ). le32 (word32 s 4) ++ x) (named s small 8 (bytes "WAVE") names.1)) in
      record {
        riff = word32 s 4;
        before = p.before;
        between = p.between;
        rest = rest;
        is = heads ∙ ap (λ (x : List ℕ). bytes "RIFF" ++ (le32 (word32 s 4) ++ (bytes "WAVE" ++ x))) (p.is ∙ ap (λ (x : List ℕ). joined p.before ++ (Grammar.format rate ++ (joined p.between ++ x))) (data_head w.to w.place d.named d.sized));
        at = omega (arith, w.place, p.ends);
        first = each passed-unknown p.first;
        later = each (λ c k. passed-skipped c (Some rate) k) p.later;
        lowest = i.lowest;
        highest = i.highest;
        fits = small32 s small 4;
        even = d.even;
        in_buffer = omega (arith, i.in_buffer, w.place, length-drop (to + 8) s);
        in_riff = i.in_riff;
      }
