-- What was read is written again: of a file with nothing but a head and samples, the same bytes but for the RIFF size.
-- Assumes nothing.
use Prim.Native.Nat.{ℕ, ◌+◌}
use native.Mathlib.Omega.{arith}
use mathlib.Core.Path.{◌≡◌, refl, sym, ◌∙◌, ap}
use mathlib.Core.List.{List, [], ◌∷◌, ◌++◌}
use lib.ListN.{length, drop, length-append, length-drop}
use lib.Seq.{take_all, length-take-le}
use Rattle.words.specs.Words.{Bytes, word16, word32, le32, put16, put32}
use Rattle.wave.specs.Grammar as Grammar
use Rattle.wave.specs.Grammar.{Chunk, whole, joined, Formed, Each, none, more}
use Rattle.wave.specs.Reading.{riff_size}
use Rattle.wave.specs.Recordings.{Reads}
use Rattle.wave.proofs.Inside.{inside}
use Rattle.wave.proofs.NothingElse.{nothing_else}
use Rattle.wave_write.specs.RoundTrips.{samples_in, again}

-- a chunk takes eight bytes at the least, so where there are none there is no chunk
no_chunks : {P : Chunk → Type 0} → ((c : Chunk) → P c → Formed c) → (cs : List Chunk) → Each P cs → length (joined cs) ≡ 0 → cs ≡ []
no_chunks formed [] none h = refl
no_chunks formed (c ∷ cs) (more k ks) h =
    absurd (omega (arith, h, (formed c k).named, length-append (whole c) (joined cs), length-append c.name (le32 (length c.body) ++ (c.body ++ c.pad))))

pub samples-long : (s : List ℕ) {rate place size : ℕ} → Reads s rate place size → length (samples_in s place size) ≡ size
samples-long s {rate} {place} {size} h = let i = inside s h in length-take-le size (drop place s) (omega (arith, i.in_buffer, length-drop place s))

module _ (s : List ℕ) {rate size : ℕ} (small : Bytes s) (h : Reads s rate 44 size) where
  pub no_chunk : s ≡ Grammar.file (riff_size s) [] rate [] size (drop 44 s)
  unfolding word32 word16
  no_chunk =
      let w = nothing_else s small h in
      let b = no_chunks (λ c k. k.formed) w.before w.first (omega (arith, w.at)) in
      let c = no_chunks (λ c k. k.formed) w.between w.later (omega (arith, w.at)) in
      let e : s ≡ Grammar.file w.riff [] rate [] size w.rest = w.is ∙ rw (b, c) in
      let z : riff_size s ≡ w.riff = ap riff_size e ∙ omega arith in
      let d : drop 44 s ≡ w.rest = ap (drop 44) e in
      rw (z, d) e

  module _ (all : length s ≡ 44 + size) where
    samples-are : samples_in s 44 size ≡ drop 44 s
    samples-are = take_all size (drop 44 s) (omega (arith, all, length-drop 44 s))

    -- what is written again is this file with 36 + size as its RIFF size
    plain : again s rate 44 size ≡ Grammar.file (36 + size) [] rate [] size (drop 44 s)
    plain =
        let n : length (drop 44 s) ≡ size = omega (arith, all, length-drop 44 s) in
        rw (samples-are, n)

    pub the_same : riff_size s ≡ 36 + size → again s rate 44 size ≡ s
    the_same z = plain ∙ sym (no_chunk ∙ rw z)

    pub but-size : again s rate 44 size ≡ put32 s 4 (36 + size)
    unfolding put32 put16
    but-size = plain ∙ sym (ap (λ (l : List ℕ). put32 l 4 (36 + size)) no_chunk)
