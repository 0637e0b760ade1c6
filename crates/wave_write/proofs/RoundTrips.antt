-- The laws of specs/RoundTrips.antt, each from the file that proves it.
-- Assumes nothing.
use Prim.Native.Nat.{ℕ, ◌+◌, ◌-◌, ◌≤◌, ◌<◌}
use native.Mathlib.Nat.{eq-zero-or-pos}
use native.Mathlib.Omega.{arith}
use mathlib.Core.Path.{◌≡◌, ◌∙◌, ap}
use mathlib.Core.List.{List, ◌++◌}
use mathlib.Core.Logic.{◌⊎◌, inl, inr}
use lib.ListN.{length, drop}
use Rattle.answer.specs.Buffers.{over}
use Rattle.words.specs.Words.{Bytes}
use Rattle.wave.specs.Reading.{riff_size}
use Rattle.wave.specs.Recordings.{Reads}
use Rattle.wave.proofs.Inside.{inside}
use Rattle.wave_write.specs.Answers.{done, refused}
use Rattle.wave_write.specs.Writing.{longest_data, file, write}
use Rattle.wave_write.specs.RoundTrips.{Tells, Leaves, Writable, Exactly, ReadBack, Again, samples_in, again, Becomes, same, shorter, resized}
use Rattle.wave_write.proofs.Back.{long, read_back, samples-back}
use Rattle.wave_write.proofs.Calls.{Tests, left, accepted, written, too_long, told-once}
use Rattle.wave_write.proofs.Again.{samples-long, no_chunk, the_same, but-size}

pub tells : Tells
tells = record { zero = λ rate samples out. (left rate samples out).zero; once = told-once }

pub leaves : Leaves
leaves = record {
  unchanged = λ rate samples out. (left rate samples out).unchanged;
  past = λ rate samples out. (left rate samples out).past;
  as_long = λ rate samples out. (left rate samples out).as_long;
}

writable : {rate : ℕ} {samples out : List ℕ} → Tests rate samples out → Writable rate samples
writable t = record { lowest = t.lowest; highest = t.highest; even = t.even; short = t.short }

pub exactly : Exactly
exactly = record {
  all = λ rate samples out w. written rate samples out (accepted rate w.lowest w.highest) w.even w.short;
  nothing_else = λ rate samples out h. let t = (left rate samples out).tests h in (writable t, t.room);
  long = long;
}

module _ (rate : ℕ) (samples out : List ℕ) (zero : (write rate samples out).0.number ≡ 0) where
  found : (rest : List ℕ) → Reads (file rate samples ++ rest) rate 44 (length samples)
  found rest = let t = (left rate samples out).tests zero in read_back rate samples rest t.lowest t.highest t.even (omega (arith, t.short))

  output : Reads (write rate samples out).1 rate 44 (length samples) × (samples_in (write rate samples out).1 44 (length samples) ≡ samples)
  output =
      let rest = drop (length (file rate samples)) out in
      rw ((left rate samples out).file-over zero) (found rest, samples-back rate samples rest)

pub reads-back : ReadBack
reads-back = record { found = λ rate samples out rest h. found rate samples out h rest; samples = samples-back; output = output }

-- ---- every file that is read
module _ (s : List ℕ) {rate place size : ℕ} where
  at-44 : place ≡ 44 → Reads s rate place size → Reads s rate 44 size
  at-44 e h = rw e at h

  whole-file : Bytes s → Reads s rate place size → place ≡ 44 → place + size ≡ length s → 36 + size ≤ riff_size s → (riff_size s - (36 + size) ≡ 0) ⊎ (0 < riff_size s - (36 + size)) → Becomes s rate place size
  whole-file small h e end most (inl z) =
      let riff : riff_size s ≡ 36 + size = omega (arith, z, most) in
      same e end riff (ap (λ (p : ℕ). again s rate p size) e ∙ the_same s small (at-44 e h) (omega (arith, e, end)) riff)
  whole-file small h e end most (inr z) =
      resized e end (omega (arith, z)) (ap (λ (p : ℕ). again s rate p size) e ∙ but-size s small (at-44 e h) (omega (arith, e, end)))

  shorter-by : Reads s rate place size → (44 < place) ⊎ (place + size < length s) → 44 + size < length s → Becomes s rate place size
  shorter-by h why l =
      let n : length (samples_in s place size) ≡ size = samples-long s h in
      shorter why (omega (arith, l, n, long rate (samples_in s place size)))

  by_place : Bytes s → Reads s rate place size → (place - 44 ≡ 0) ⊎ (0 < place - 44) → (length s - (place + size) ≡ 0) ⊎ (0 < length s - (place + size)) → Becomes s rate place size
  by_place small h (inl p) (inl b) =
      let i = inside s h in
      whole-file small h (omega (arith, p, i.behind_heads)) (omega (arith, b, i.in_buffer)) (omega (arith, p, i.in_riff, i.behind_heads)) (eq-zero-or-pos (riff_size s - (36 + size)))
  by_place small h (inr p) b = let i = inside s h in shorter-by h (inl (omega (arith, p))) (omega (arith, p, i.in_buffer))
  by_place small h (inl p) (inr b) = let i = inside s h in shorter-by h (inr (omega (arith, b))) (omega (arith, b, i.behind_heads))

  every : Bytes s → Reads s rate place size → Becomes s rate place size
  every small h = by_place small h (eq-zero-or-pos (place - 44)) (eq-zero-or-pos (length s - (place + size)))

module _ (s out : List ℕ) (rate place size : ℕ) (h : Reads s rate place size) where
  once_more : size ≤ longest_data → 44 + size ≤ length out → write rate (samples_in s place size) out ≡ (done (44 + size), over (again s rate place size) out)
  once_more few room =
      let i = inside s h in
      let n = samples-long s h in
      written rate (samples_in s place size) out (accepted rate i.lowest i.highest) (rw n i.even_size) (rw n few) (rw n room) ∙ ap (λ (k : ℕ). (done (44 + k), over (again s rate place size) out)) n

  refused-again : longest_data < size → write rate (samples_in s place size) out ≡ (refused 17, out)
  refused-again many =
      let i = inside s h in
      let n = samples-long s h in
      too_long rate (samples_in s place size) out (accepted rate i.lowest i.highest) (rw n i.even_size) (rw n many)

pub written-again : Again
written-again = record {
  same = λ s rate size b h n z. the_same s b h n z;
  every = λ s rate place size b h. every s b h;
  no_chunk = λ s rate size b h. no_chunk s b h;
  written = once_more;
  too_long = refused-again;
}
