-- A refusal tells three zeros beside its number; and what is told says which answer it was.
-- Assumes nothing.
use Prim.Native.Nat.{ℕ, ◌+◌, ◌%◌, ◌<◌}
use native.Mathlib.Omega.{arith}
use mathlib.Core.Path.{◌≡◌, refl, sym, ◌∙◌, ap}
use mathlib.Core.Bool.{Bool, cond}
use mathlib.Core.List.{List}
use lib.Dec.{eqb, leb}
use Rattle.std.proofs.lemmas.Bool.{cond_both}
use Rattle.std.specs.Prelude.{Some, None, Result, Ok, Err}
use Rattle.answer.specs.Told.{unless}
use Rattle.words.specs.Words.{word32}
use Rattle.wave.specs.Answers.{found, refused, number, told}
use Rattle.wave.specs.Reading.{Met, Data, Stops, size_at, samples_at, samples_of, end_within, walk, is_wave, read}
use Rattle.wave.specs.declared.Fault.{Fault}
use Rattle.wave.specs.declared.Fault.TheVariants.{NotWave, CutShort, Missing, OtherFormat, BadRate, OddData}
use Rattle.wave.specs.declared.Figures.{Figures}
use Rattle.wave.specs.declared.Found.{Found}

-- ---- three zeros
pub record Zeros (t : Figures) : Type 0 where
  pub zeros : (t.number ≡ 0 → ⊥) → (t.rate ≡ 0) × ((t.place ≡ 0) × (t.length ≡ 0))

plain : (n : ℕ) → Zeros (refused n)
plain n = record { zeros = λ h. (refl, (refl, refl)) }

done : (r p z : ℕ) → Zeros (found r p z)
done r p z = record { zeros = λ h. absurd (h refl) }

else : (t : Bool) (n : ℕ) (x : Figures) → Zeros x → Zeros (unless t (refused n) x)
else t n x h = cond_both t x (refused n) Zeros (λ _. h) (λ _. plain n)

module _ (s : List ℕ) where
  of-met : (end : ℕ) (m : Met) → Zeros (samples_of s end m)
  unfolding samples_at
  of-met end (Data at None) = else (leb (at + 8 + size_at s at) end) 11 _ (plain 12)
  of-met end (Data at (Some rate)) =
      else (leb (at + 8 + size_at s at) end) 11 _
      (else (eqb (size_at s at % 2) 0) 14 _ (done rate (at + 8) (size_at s at)))
  of-met end (Stops n) = plain n

  pub refused-zeros : Zeros (read s)
  unfolding read
  refused-zeros =
      else (is_wave s) 10 _
      (else (leb 4 (word32 s 4)) 10 _ (of-met (end_within s (word32 s 4 + 8)) (walk s (word32 s 4 + 8))))

-- ---- one to one
fault_of : ℕ → Fault
fault_of n = cond (eqb n 10) NotWave (cond (eqb n 11) CutShort (cond (eqb n 12) Missing (cond (eqb n 13) OtherFormat (cond (eqb n 14) OddData BadRate))))

its-fault : (f : Fault) → fault_of (number f) ≡ f
unfolding fault_of
its-fault NotWave = refl
its-fault CutShort = refl
its-fault Missing = refl
its-fault OtherFormat = refl
its-fault BadRate = refl
its-fault OddData = refl

some : (f : Fault) → 0 < number f
some NotWave = omega arith
some CutShort = omega arith
some Missing = omega arith
some OtherFormat = omega arith
some BadRate = omega arith
some OddData = omega arith

pub told-once : (a b : Result Found Fault) → told a ≡ told b → a ≡ b
told-once (Ok f) (Ok g) h =
    let i : f.rate ≡ g.rate = ap (λ (t : Figures). t.rate) h in
    let j : f.place ≡ g.place = ap (λ (t : Figures). t.place) h in
    let k : f.length ≡ g.length = ap (λ (t : Figures). t.length) h in
    let made : ℕ → ℕ → ℕ → Result Found Fault = λ r p z. Ok (record { rate = r; place = p; length = z }) in
    let e : made f.rate f.place f.length ≡ made g.rate g.place g.length = rw (i, j, k) in
    e
told-once (Ok f) (Err g) h = absurd (let k : 0 ≡ number g = ap (λ (t : Figures). t.number) h in omega (arith, some g))
told-once (Err f) (Ok g) h = absurd (let k : number f ≡ 0 = ap (λ (t : Figures). t.number) h in omega (arith, some f))
told-once (Err f) (Err g) h = ap Err (sym (its-fault f) ∙ ap (λ (t : Figures). fault_of t.number) h ∙ its-fault g)
