-- What a chunk that leads on is: the first `fmt `, or one that is skipped.
-- Assumes nothing.
use Prim.Native.Nat.{ℕ, ◌+◌, ◌≤◌}
use mathlib.Core.Path.{◌≡◌, refl, sym, ◌∙◌}
use mathlib.Core.Bool.{Bool, true, false, ◌&&◌, cond}
use mathlib.Core.List.{List}
use lib.Dec.{eqb, ltb, leb}
use Rattle.std.specs.Prelude.{Option, Some}
use borrow.Author.Tests.{leb-true, eqb-true}
use Rattle.words.specs.Words.{word32}
use Rattle.wave.specs.Reading.{Data, Ends, On, is_rate, is_data, is_first_format, is_format, size_at, behind, format_step, step}
use Rattle.wave.proofs.Cases.{others}
use Rattle.std.proofs.lemmas.Bool.{and_parts}
use Rattle.wave.proofs.Tests.{passed}

-- a chunk that is not the first `fmt `, and the first `fmt `
pub data Kind (s : List ℕ) (at : ℕ) (rate known : Option ℕ) : Type 0 where
  skipped : is_first_format s at rate ≡ false → known ≡ rate → Kind s at rate known
  format : is_first_format s at rate ≡ true → size_at s at ≡ 16 → is_format s (at + 8) ≡ true → is_rate (word32 s (at + 8 + 4)) ≡ true → known ≡ Some (word32 s (at + 8 + 4)) → Kind s at rate known

pub record Goes (s : List ℕ) (end at : ℕ) (rate : Option ℕ) (next : ℕ) (known : Option ℕ) : Type 0 where
  pub other : is_data s at ≡ false
  pub head : at + 8 ≤ end
  pub place : next ≡ behind s at
  pub inside : next ≤ end
  pub kind : Kind s at rate known

module _ (s : List ℕ) (end at : ℕ) (rate : Option ℕ) (next : ℕ) (known : Option ℕ) where
  on-format : (n size : ℕ) → size ≡ size_at s at → is_first_format s at rate ≡ true → format_step s (at + 8) size n ≡ On next known → (next ≡ n) × Kind s at rate known
  unfolding format_step
  on-format n size z f h =
      let p = passed (eqb size 16 && is_format s (at + 8)) _ _ h in
      let q = passed (is_rate (word32 s (at + 8 + 4))) _ _ p.1 in
      let b = and_parts (eqb size 16) (is_format s (at + 8)) p.0 in
      let e : On n (Some (word32 s (at + 8 + 4))) ≡ On next known = q.1 in
      let k : known ≡ Some (word32 s (at + 8 + 4)) = cc in
      let m : next ≡ n = cc in
      (m, format f (sym z ∙ eqb-true _ _ b.0) b.1 q.0 k)

  on-skip : others s end at rate ≡ On next known → (next ≡ behind s at) × ((next ≤ end) × Kind s at rate known)
  on-skip h = let n = behind s at in let p = passed (leb n end) _ _ h in go (is_first_format s at rate) refl (leb-true n end p.0) p.1
    where
      go : (t : Bool) → is_first_format s at rate ≡ t → behind s at ≤ end → cond t (format_step s (at + 8) (size_at s at) (behind s at)) (On (behind s at) rate) ≡ On next known → (next ≡ behind s at) × ((next ≤ end) × Kind s at rate known)
      go true f l e = let q = on-format (behind s at) (size_at s at) refl f e in (q.0, (rw q.0 l, q.1))
      go false f l e =
          let m : next ≡ behind s at = cc in
          let k : known ≡ rate = cc in
          (m, (rw m l, skipped f k))

  pub goes : step s end at rate ≡ On next known → Goes s end at rate next known
  unfolding step
  goes h =
      let p = passed (ltb at end) _ _ h in
      let q = passed (leb (at + 8) end) _ _ p.1 in
      go (is_data s at) refl (leb-true _ _ q.0) q.1
    where
      go : (t : Bool) → is_data s at ≡ t → at + 8 ≤ end → cond t (Ends (Data at rate)) (others s end at rate) ≡ On next known → Goes s end at rate next known
      go true d l e = cc
      go false d l e = let r = on-skip e in record { other = d; head = l; place = r.0; inside = r.1.0; kind = r.1.1 }
