-- Every recording of the grammar is read.
-- Assumes nothing.
use Prim.Native.Nat.{ℕ, ◌+◌, ◌*◌, ◌%◌, ◌≤◌}
use native.Mathlib.Nat.{add_assoc}
use native.Mathlib.Omega.{arith}
use mathlib.Core.Path.{◌≡◌, refl, sym, ◌∙◌, ap}
use mathlib.Core.Bool.{true}
use mathlib.Core.List.{List, [], ◌∷◌, ◌++◌, append_assoc}
use lib.ListN.{length, take, drop, length-append}
use lib.Seq.{take_at, drop_at, drop-drop, drop-append_seam}
use lib.Dec.{leb}
use Rattle.std.proofs.lemmas.Bool.{and_from}
use Rattle.std.specs.Prelude.{Option, Some, None}
use borrow.Author.Tests.{le-leb, eq-eqb}
use Rattle.answer.specs.Figures.{lowest_rate, highest_rate}
use Rattle.answer.specs.Names.{bytes, same}
use Rattle.words.specs.Words.{word16, word32, le32}
use Rattle.words.proofs.Bytes.{word16-drop, word32-drop, word32-le32}
use Rattle.wave.specs.Answers.{found}
use Rattle.wave.specs.Reading.{is_rate, is_named, is_format, is_wave, read}
use Rattle.wave.specs.Grammar as Grammar
use Rattle.wave.specs.Grammar.{Chunk, Formed, whole, joined, Each, none, more, IsWave}
use Rattle.wave.proofs.Passed.{Passed, each, unknown-passes, skipped-passes}
use Rattle.wave.proofs.Turns.{skipped, format, Goes}
use Rattle.wave.proofs.Trail.{Samples, Trail, here, on, end_of, reads}

length_whole : (c : Chunk) → Formed c → length (whole c) ≡ 8 + length c.body + length c.body % 2
length_whole c f =
    omega (arith, f.named, f.padded, length-append c.name (le32 (length c.body) ++ (c.body ++ c.pad)), length-append c.body c.pad)

format-drop : (s : List ℕ) (a k : ℕ) → is_format (drop a s) k ≡ is_format s (a + k)
unfolding is_format
format-drop s a k = simp (word16-drop s a, word32-drop s a, add_assoc a k)

good-format : (rate : ℕ) (r : List ℕ) → is_format (Grammar.format rate ++ r) 8 ≡ true
unfolding is_format word32 word16
good-format rate r =
    let h : word32 (Grammar.format rate ++ r) 16 ≡ word32 (Grammar.format rate ++ r) 12 * 2 = omega arith in
    rw (eq-eqb _ _ h)

module _ (s : List ℕ) where
  further : (at : ℕ) (a b : List ℕ) → drop at s ≡ a ++ b → drop (at + length a) s ≡ b
  further at a b e = sym (drop-drop (length a) at s) ∙ ap (drop (length a)) e ∙ drop-append_seam a b

  module _ (at : ℕ) (name r : List ℕ) (n : length name ≡ 4) where
    name-at : (other : List ℕ) → drop at s ≡ name ++ r → is_named s at other ≡ same name other
    unfolding is_named
    name-at other e = ap (λ (l : List ℕ). same l other) (ap (take 4) e ∙ take_at name r 4 n)

  size-at : (at : ℕ) (name : List ℕ) (size : ℕ) (r : List ℕ) → length name ≡ 4 → drop at s ≡ name ++ (le32 size ++ r) → word32 s (at + 4) ≡ size
  size-at at name size r n e =
      let x = name ++ (le32 size ++ r) in
      sym (word32-drop s at 4) ∙ ap (λ (l : List ℕ). word32 l 4) e ∙ sym (word32-drop x 4 0) ∙ ap (λ (l : List ℕ). word32 l 0) (drop_at name (le32 size ++ r) 4 n) ∙ word32-le32 size r

  module _ (end : ℕ) where
    skip : (at : ℕ) (rate : Option ℕ) (c : Chunk) (r : List ℕ) → Passed rate c → drop at s ≡ whole c ++ r → at + length (whole c) ≤ end → Goes s end at rate (at + length (whole c)) rate
    skip at rate c r k e l =
        let f = k.formed in
        let e' : drop at s ≡ c.name ++ (le32 (length c.body) ++ ((c.body ++ c.pad) ++ r)) = e ∙ append_assoc c.name (le32 (length c.body) ++ (c.body ++ c.pad)) r in
        let z = size-at at c.name (length c.body) ((c.body ++ c.pad) ++ r) f.named e' in
        let names = name-at at c.name (le32 (length c.body) ++ ((c.body ++ c.pad) ++ r)) f.named in
        let w = length_whole c f in
        record {
          other = names (bytes "data") e' ∙ k.no_data;
          head = omega (arith, w, l);
          place = rw z (omega (arith, w));
          inside = l;
          kind = skipped (rw (names (bytes "fmt ") e') k.no_format) refl;
        }

    along : (cs : List Chunk) (at : ℕ) (rate : Option ℕ) (to : ℕ) (r : List ℕ) {goal : ℕ} {last : Option ℕ} → Each (Passed rate) cs → drop at s ≡ joined cs ++ r → to ≡ at + length (joined cs) → to ≤ end → Trail s end goal last to rate → Trail s end goal last at rate
    along [] at rate to r none e p l t = let q : to ≡ at = omega (arith, p) in rw q at t
    along (c ∷ cs) at rate to r (more k ks) e p l t =
        let e' : drop at s ≡ whole c ++ (joined cs ++ r) = e ∙ append_assoc (whole c) (joined cs) r in
        let n = length-append (whole c) (joined cs) in
        on (skip at rate c (joined cs ++ r) k e' (omega (arith, p, l, n)))
        (along cs (at + length (whole c)) rate to r ks (further at (whole c) (joined cs ++ r) e') (omega (arith, p, n)) l t)

    formats : (at rate : ℕ) (r : List ℕ) → is_rate rate ≡ true → drop at s ≡ Grammar.format rate ++ r → at + 24 ≤ end → Goes s end at None (at + 24) (Some rate)
    unfolding is_named same word32 word16
    formats at rate r a e l =
        let z : word32 s (at + 4) ≡ 16 = sym (word32-drop s at 4) ∙ ap (λ (x : List ℕ). word32 x 4) e in
        let y : word32 (Grammar.format rate ++ r) 12 ≡ rate = omega arith in
        let k : word32 s (at + 12) ≡ rate = sym (word32-drop s at 12) ∙ ap (λ (x : List ℕ). word32 x 12) e ∙ y in
        let w : rate ≡ word32 s (at + 8 + 4) = sym k ∙ ap (word32 s) (sym (add_assoc at 8 4)) in
        let f : is_named s at (bytes "fmt ") ≡ true = ap (λ (x : List ℕ). same (take 4 x) (bytes "fmt ")) e in
        record {
          other = ap (λ (x : List ℕ). same (take 4 x) (bytes "data")) e;
          head = omega (arith, l);
          place = rw z (omega arith);
          inside = l;
          kind = format (rw f) z (sym (format-drop s at 8) ∙ ap (λ (x : List ℕ). is_format x 8) e ∙ good-format rate r) (ap is_rate (sym w) ∙ a) (ap Some w);
        }

    samples : (at rate size : ℕ) (r : List ℕ) → drop at s ≡ bytes "data" ++ (le32 size ++ r) → at + 8 + size ≤ end → size % 2 ≡ 0 → Samples s end at rate size
    unfolding is_named same
    samples at rate size r e l v = record {
      named = ap (λ (x : List ℕ). same (take 4 x) (bytes "data")) e;
      sized = size-at at (bytes "data") size r refl e;
      inside = l;
      even = v;
    }

pub all_read : (s : List ℕ) {rate place size : ℕ} → IsWave s rate place size → read s ≡ found rate place size
unfolding end_of is_rate is_wave is_named same word32 word16
all_read s {rate} {place} {size} w =
    let tail = bytes "data" ++ (le32 size ++ w.rest) in
    let b = length (joined w.before) in
    let c = length (joined w.between) in
    let rest₂ = joined w.between ++ tail in
    let rest₁ = Grammar.format rate ++ rest₂ in
    let e₀ : drop 12 s ≡ joined w.before ++ rest₁ = ap (drop 12) w.is in
    let e₁ : drop (12 + b) s ≡ rest₁ = further s 12 (joined w.before) rest₁ e₀ in
    let e₂ : drop (12 + b + 24) s ≡ rest₂ = further s (12 + b) (Grammar.format rate) rest₂ e₁ in
    let e₃ : drop (12 + b + 24 + c) s ≡ tail = further s (12 + b + 24) (joined w.between) tail e₂ in
    let n : length s ≡ 12 + (b + (24 + (c + (8 + length w.rest)))) = ap length w.is ∙ omega (arith, length-append (joined w.before) rest₁, length-append (joined w.between) tail) in
    let z : word32 s 4 ≡ w.riff = ap (λ (x : List ℕ). word32 x 4) w.is ∙ omega arith in
    let p = w.at in
    let room : place + size ≤ end_of s = omega (arith, n, z, p, w.in_buffer, w.in_riff) in
    let a : is_rate rate ≡ true = and_from (leb lowest_rate rate) (leb rate highest_rate) (le-leb _ _ w.lowest) (le-leb _ _ w.highest) in
    let t₃ : Trail s (end_of s) (12 + b + 24 + c) (Some rate) (12 + b + 24 + c) (Some rate) = here in
    let t₂ = along s (end_of s) w.between (12 + b + 24) (Some rate) (12 + b + 24 + c) tail (each (λ c k. skipped-passes c rate k) w.later) e₂ refl (omega (arith, p, room)) t₃ in
    let t₁ = on (formats s (end_of s) (12 + b) rate rest₂ a e₁ (omega (arith, p, room))) t₂ in
    let t₀ = along s (end_of s) w.before 12 None (12 + b) rest₁ (each unknown-passes w.first) e₀ refl (omega (arith, p, room)) t₁ in
    reads record {
      wave = let l : 12 ≤ length s = omega (arith, n) in rw (le-leb 12 (length s) l, ap (λ (x : List ℕ). same (take 4 x) (bytes "RIFF")) w.is, ap (λ (x : List ℕ). same (take 4 (drop 8 x)) (bytes "WAVE")) w.is);
      least = omega (arith, z, p, w.in_riff);
      to = 12 + b + 24 + c;
      place = p;
      trail = t₀;
      samples = samples s (end_of s) (12 + b + 24 + c) rate size w.rest e₃ (omega (arith, p, room)) w.even;
    }
