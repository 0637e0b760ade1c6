-- The laws of specs/Streaming.antt.
-- Assumes nothing.
use Prim.Native.Nat.{ℕ, ◌%◌, ◌≤◌, ◌<◌, ◌^◌}
use native.Mathlib.Omega.{arith}
use mathlib.Core.Path.{◌≡◌, refl}
use mathlib.Core.Bool.{true}
use mathlib.Core.List.{List, ◌++◌}
use lib.ListN.{length, take, drop}
use borrow.Author.Tests.{le-leb, leb-true, lt-ltb, ltb-true, eq-eqb, eqb-true}
use Rattle.answer.specs.Buffers.{over}
use Rattle.wave.specs.Reading.{is_rate}
use Rattle.wave.specs.Recordings.{Reads}
use Rattle.wave.proofs.Inside.{between}
use Rattle.wave_write.specs.Answers.{done, refused}
use Rattle.wave_write.specs.Writing.{riff_for, head, file, write_head}
use Rattle.wave_write.specs.Streaming.{Headed, Streaming}
use Rattle.wave_write.specs.declared.Figures.{Figures}
use Rattle.wave_write.proofs.Tests.{by-tests}
use Rattle.wave_write.proofs.Back.{read_back}
use Rattle.wave_write.proofs.Calls.{accepted}

module _ (rate size : ℕ) (out : List ℕ) where
  -- the clauses of Headed once more, so that an edit of the page is refused by the page alone
  record Tests : Type 0 where
    rated : is_rate rate ≡ true
    even : size % 2 ≡ 0
    fits : riff_for size < 2 ^ 32
    room : 44 ≤ length out

  -- what holds where a test fails, and where all four hold, holds of a call
  head-by : (P : Figures × List ℕ → Type 0) → ((n : ℕ) → 0 < n → P (refused n, out)) → (Tests → P (done 44, over (head rate size) out)) → P (write_head rate size out)
  unfolding write_head
  head-by P refusals passes =
      by-tests P out refusals _ _ _ _ _ (λ r e f h.
      passes record { rated = r; even = eqb-true _ _ e; fits = ltb-true _ _ f; room = leb-true _ _ h })

  tests : (write_head rate size out).0.number ≡ 0 → Tests
  tests = head-by (λ t. t.0.number ≡ 0 → Tests) (λ n l z. absurd (omega (arith, l, z))) (λ t _. t)

  headed : Tests → Headed rate size out
  headed t = record { lowest = (between rate t.rated).0; highest = (between rate t.rated).1; even = t.even; fits = t.fits; room = t.room }

  head-over : Tests → write_head rate size out ≡ (done 44, over (head rate size) out)
  unfolding write_head
  head-over t = rw (t.rated, eq-eqb _ _ t.even, lt-ltb (riff_for size) (2 ^ 32) t.fits, le-leb _ _ t.room)

  all : Headed rate size out → write_head rate size out ≡ (done 44, over (head rate size) out)
  all h = head-over record { rated = accepted rate h.lowest h.highest; even = h.even; fits = h.fits; room = h.room }

  zero : ((write_head rate size out).0.number ≡ 0 → ⊥) → (write_head rate size out).0.length ≡ 0
  zero = head-by (λ t. (t.0.number ≡ 0 → ⊥) → t.0.length ≡ 0) (λ _ _ _. refl) (λ _ n. absurd (n refl))

  unchanged : ((write_head rate size out).0.number ≡ 0 → ⊥) → (write_head rate size out).1 ≡ out
  unchanged = head-by (λ t. (t.0.number ≡ 0 → ⊥) → t.1 ≡ out) (λ _ _ _. refl) (λ _ n. absurd (n refl))

  past : drop 44 (write_head rate size out).1 ≡ drop 44 out
  past = head-by (λ t. drop 44 t.1 ≡ drop 44 out) (λ _ _. refl) (λ _. refl)

module _ (rate : ℕ) (samples out : List ℕ) (zero-told : (write_head rate (length samples) out).0.number ≡ 0) where
  whole : take 44 (write_head rate (length samples) out).1 ++ samples ≡ file rate samples
  whole = rw (head-over rate (length samples) out (tests rate (length samples) out zero-told))

  found : (rest : List ℕ) → Reads (file rate samples ++ rest) rate 44 (length samples)
  found rest =
      let t = tests rate (length samples) out zero-told in
      let r = between rate t.rated in
      read_back rate samples rest r.0 r.1 t.even t.fits

pub streaming : Streaming
streaming = record {
  all = all;
  nothing_else = λ rate size out z. headed rate size out (tests rate size out z);
  zero = zero;
  unchanged = unchanged;
  past = past;
  whole = whole;
  found = λ rate samples out rest z. found rate samples out z rest;
}
