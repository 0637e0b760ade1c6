-- A call is done exactly where all four tests hold, and else leaves the output; and what is told says which answer it was.
-- Assumes nothing.
use Prim.Native.Nat.{ℕ, ◌+◌, ◌%◌, ◌≤◌, ◌<◌}
use native.Mathlib.Omega.{arith}
use mathlib.Core.Path.{◌≡◌, refl, sym, ◌∙◌, ap}
use mathlib.Core.Bool.{true, cond}
use mathlib.Core.List.{List}
use lib.Dec.{eqb}
use Rattle.std.specs.Prelude.{Result, Ok, Err}
use lib.ListN.{length, drop, length-append, length-drop}
use lib.Seq.{drop_at}
use borrow.Author.Tests.{le-leb, lt-leb, leb-true, eq-eqb, eqb-true}
use Rattle.answer.specs.Buffers.{over}
use Rattle.answer.specs.Figures.{lowest_rate, highest_rate}
use Rattle.wave.specs.Reading.{is_rate}
use Rattle.wave.proofs.Inside.{between}
use Rattle.wave_write.specs.Answers.{done, refused, number, told}
use Rattle.wave_write.specs.Writing.{longest_data, file, write}
use Rattle.wave_write.specs.declared.Fault.{Fault}
use Rattle.wave_write.specs.declared.Fault.TheVariants.{BadRate, OddData, TooLong, NoRoom}
use Rattle.wave_write.specs.declared.Figures.{Figures}
use Rattle.wave_write.proofs.Back.{long}
use Rattle.wave_write.proofs.Tests.{by-tests}

-- ---- what a call leaves
-- the clauses of Writable and Room once more, so that an edit of the page is refused by the page alone
pub record Tests (rate : ℕ) (samples out : List ℕ) : Type 0 where
  pub lowest : lowest_rate ≤ rate
  pub highest : rate ≤ highest_rate
  pub even : length samples % 2 ≡ 0
  pub short : length samples ≤ longest_data
  pub room : 44 + length samples ≤ length out

pub record Left (rate : ℕ) (samples out : List ℕ) (t : Figures × List ℕ) : Type 0 where
  pub zero : (t.0.number ≡ 0 → ⊥) → t.0.length ≡ 0
  pub unchanged : (t.0.number ≡ 0 → ⊥) → t.1 ≡ out
  pub past : drop (44 + length samples) t.1 ≡ drop (44 + length samples) out
  pub as_long : length t.1 ≡ length out
  pub tests : t.0.number ≡ 0 → Tests rate samples out
  pub file-over : t.0.number ≡ 0 → t.1 ≡ over (file rate samples) out

module _ (rate : ℕ) (samples out : List ℕ) where
  stopped : (n : ℕ) → 0 < n → Left rate samples out (refused n, out)
  stopped n l = record {
    zero = λ h. refl;
    unchanged = λ h. refl;
    past = refl;
    as_long = refl;
    tests = λ h. absurd (omega (arith, l, h));
    file-over = λ h. absurd (omega (arith, l, h));
  }

  finished : Tests rate samples out → Left rate samples out (done (44 + length samples), over (file rate samples) out)
  finished h =
      let f = file rate samples in
      let n = long rate samples in
      record {
        zero = λ k. absurd (k refl);
        unchanged = λ k. absurd (k refl);
        past = drop_at f (drop (length f) out) (44 + length samples) n ∙ ap (λ (i : ℕ). drop i out) n;
        as_long = omega (arith, h.room, n, length-append f (drop (length f) out), length-drop (length f) out);
        tests = λ k. h;
        file-over = λ k. refl;
      }

  pub left : Left rate samples out (write rate samples out)
  unfolding write
  left =
      by-tests (Left rate samples out) out stopped _ _ _ _ _ (λ r e s h.
      finished record { lowest = (between rate r).0; highest = (between rate r).1; even = eqb-true _ _ e; short = leb-true _ _ s; room = leb-true _ _ h })

  -- what can be written is
  module _ (rated : is_rate rate ≡ true) (even : length samples % 2 ≡ 0) where
    pub written : length samples ≤ longest_data → 44 + length samples ≤ length out → write rate samples out ≡ (done (44 + length samples), over (file rate samples) out)
    unfolding write
    written short room = rw (rated, eq-eqb _ _ even, le-leb _ _ short, le-leb _ _ room)

    pub too_long : longest_data < length samples → write rate samples out ≡ (refused 17, out)
    unfolding write
    too_long long = rw (rated, eq-eqb _ _ even, lt-leb _ _ long)

pub accepted : (rate : ℕ) → lowest_rate ≤ rate → rate ≤ highest_rate → is_rate rate ≡ true
unfolding is_rate
accepted rate l h = rw (le-leb lowest_rate rate l, le-leb rate highest_rate h)

-- ---- what is told says which answer it was
fault_of : ℕ → Fault
fault_of n = cond (eqb n 5) BadRate (cond (eqb n 14) OddData (cond (eqb n 17) TooLong NoRoom))

its-fault : (f : Fault) → fault_of (number f) ≡ f
unfolding fault_of
its-fault BadRate = refl
its-fault OddData = refl
its-fault TooLong = refl
its-fault NoRoom = refl

not-0 : (f : Fault) → 0 < number f
not-0 BadRate = omega arith
not-0 OddData = omega arith
not-0 TooLong = omega arith
not-0 NoRoom = omega arith

pub told-once : (a b : Result ℕ Fault) → told a ≡ told b → a ≡ b
told-once (Ok n) (Ok m) h = ap Ok (ap (λ (t : Figures). t.length) h)
told-once (Ok n) (Err g) h = absurd (let k : 0 ≡ number g = ap (λ (t : Figures). t.number) h in omega (arith, not-0 g))
told-once (Err f) (Ok m) h = absurd (let k : number f ≡ 0 = ap (λ (t : Figures). t.number) h in omega (arith, not-0 f))
told-once (Err f) (Err g) h = ap Err (sym (its-fault f) ∙ ap (λ (t : Figures). fault_of t.number) h ∙ its-fault g)
