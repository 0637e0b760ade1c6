-- A recording is read exactly where a trail of chunks leads from byte 12 to a `data` chunk.
-- Assumes nothing.
use Prim.Native.Nat.{ℕ, zero, suc, ◌+◌, ◌-◌, ◌%◌, ◌≤◌, ◌<◌}
use native.Mathlib.Nat.{not-suc-le-zero}
use native.Mathlib.Omega.{arith}
use mathlib.Core.Path.{◌≡◌, refl, sym, ◌∙◌, ap}
use mathlib.Core.Bool.{Bool, true, false, cond}
use mathlib.Core.List.{List}
use lib.Dec.{eqb, ltb, leb}
use Rattle.std.specs.Prelude.{Option, Some, None}
use lib.ListN.{length}
use borrow.Author.Tests.{leb-true, eqb-true, le-leb, eq-eqb}
use Rattle.answer.specs.Told.{unless}
use Rattle.wave.specs.Answers.{found, refused}
use Rattle.wave.specs.declared.Figures.{Figures}
use Rattle.wave.specs.Reading.{Met, Data, Stops, Step, Ends, On, follow, is_data, size_at, behind, format_step, step, chunks, where_known, samples_at, samples_of, end_within, walk, is_wave, riff_size, read}
use Rattle.wave.proofs.Cases.{others, data-here, first-format, passed_over}
use Rattle.wave.proofs.Tests.{kept, not-other}
use Rattle.wave.proofs.Numbers.{above}
use Rattle.wave.proofs.Turns.{Kind, skipped, format, Goes, goes}

-- ---- a chunk that leads on
module _ {s : List ℕ} {end at : ℕ} {rate : Option ℕ} {next : ℕ} {known : Option ℕ} (g : Goes s end at rate next known) where
  by_kind : behind s at ≤ end → Kind s at rate known → step s end at rate ≡ On (behind s at) known
  unfolding format_step
  by_kind i (skipped f k) = rw k (passed_over s end at rate g.head g.other i f)
  by_kind i (format f z b r k) = first-format s end at rate g.head g.other i f ∙ rw (eq-eqb _ _ z, b, r, k)

  pub goes_on : step s end at rate ≡ On next known
  goes_on = rw g.place (by_kind (rw g.place at g.inside) g.kind)

-- ---- the head of `data`, and the samples behind it
pub record Head (s : List ℕ) (end at : ℕ) : Type 0 where
  pub named : is_data s at ≡ true
  pub inside : at + 8 ≤ end

pub record Samples (s : List ℕ) (end at rate size : ℕ) : Type 0 where
  pub named : is_data s at ≡ true
  pub sized : size_at s at ≡ size
  pub inside : at + 8 + size ≤ end
  pub even : size % 2 ≡ 0

module _ {s : List ℕ} {end at rate size : ℕ} (d : Samples s end at rate size) where
  pub meets : step s end at (Some rate) ≡ Ends (Data at (Some rate))
  meets = data-here s end at (Some rate) (omega (arith, d.inside)) d.named

  pub samples-there : samples_at s end at (Some rate) ≡ found rate (at + 8) size
  unfolding samples_at
  samples-there = rw (d.sized, le-leb _ _ d.inside, eq-eqb _ _ d.even)

-- a `data` that is met stands where the walk has come to
module _ {to : ℕ} {last : Option ℕ} where
  pub met_at : (s : List ℕ) (end at : ℕ) (rate : Option ℕ) → step s end at rate ≡ Ends (Data to last) → Head s end at × ((to ≡ at) × (last ≡ rate))
  unfolding step
  met_at s end at rate h =
      let a = kept (leb (at + 8) end) 11 _ (kept (ltb at end) 12 _ h).1 in
      go (is_data s at) refl (leb-true _ _ a.0) a.1
    where
      go : (t : Bool) → is_data s at ≡ t → at + 8 ≤ end → cond t (Ends (Data at rate)) (others s end at rate) ≡ Ends (Data to last) → Head s end at × ((to ≡ at) × (last ≡ rate))
      go true n i e =
          let d : Data at rate ≡ Data to last = cc in
          let p : to ≡ at = cc in
          let r : last ≡ rate = cc in
          (record { named = n; inside = i }, (p, r))
      go false n i e = absurd (not-other s end at rate e)

-- ---- the chunks on the way
pub data Trail (s : List ℕ) (end to : ℕ) (last : Option ℕ) : ℕ → Option ℕ → Type 0 where
  here : Trail s end to last to last
  on : {at : ℕ} {rate : Option ℕ} {next : ℕ} {known : Option ℕ} → Goes s end at rate next known → Trail s end to last next known → Trail s end to last at rate

pub arrives : {s : List ℕ} {end to last at size : ℕ} {rate : Option ℕ} → Trail s end to (Some last) at rate → Samples s end to last size → (k : ℕ) → end - at < k → chunks s end k at rate ≡ Data to (Some last)
unfolding chunks
arrives t d zero h = absurd (not-suc-le-zero h)
arrives here d (suc k) h = rw (meets d)
arrives (on g t) d (suc k) h = rw (goes_on g) (arrives t d k (omega (arith, h, g.place, g.head, g.inside)))

pub record Reached (s : List ℕ) (end at : ℕ) (rate : Option ℕ) (to : ℕ) (last : Option ℕ) : Type 0 where
  pub trail : Trail s end to last at rate
  pub head : Head s end to

module _ (s : List ℕ) (end : ℕ) {to : ℕ} {last : Option ℕ} where
  ends_at : (at : ℕ) (rate : Option ℕ) → Head s end at × ((to ≡ at) × (last ≡ rate)) → Reached s end at rate to last
  ends_at at rate f = record { trail = rw (f.1.0, f.1.1) here; head = rw f.1.0 f.0 }

  goes_further : {at : ℕ} {rate : Option ℕ} {next : ℕ} {known : Option ℕ} → Goes s end at rate next known → Reached s end next known to last → Reached s end at rate to last
  goes_further g f = record { trail = on g f.trail; head = f.head }

  pub reached : (k at : ℕ) (rate : Option ℕ) → chunks s end k at rate ≡ Data to last → Reached s end at rate to last
  unfolding chunks
  reached zero at rate h = cc
  reached (suc k) at rate h = go (step s end at rate) refl h (reached k)
    where
      go : (t : Step) → step s end at rate ≡ t → follow t (chunks s end k) ≡ Data to last → ((at : ℕ) (rate : Option ℕ) → chunks s end k at rate ≡ Data to last → Reached s end at rate to last) → Reached s end at rate to last
      go (Ends m) e h again = ends_at at rate (met_at s end at rate (e ∙ ap Ends h))
      go (On next known) e h again = goes_further (goes s end at rate next known e) (again next known h)

  pub head_inside : (k at : ℕ) (rate : Option ℕ) → chunks s end k at rate ≡ Data to last → to + 8 ≤ end
  head_inside k at rate h = (reached k at rate h).head.inside

-- ---- the whole
unfoldable pub end_of : List ℕ → ℕ
end_of s = end_within s (riff_size s + 8)

pub record Recording (s : List ℕ) (r p z : ℕ) : Type 0 where
  pub wave : is_wave s ≡ true
  pub least : 4 ≤ riff_size s
  pub to : ℕ
  pub place : p ≡ to + 8
  pub trail : Trail s (end_of s) to (Some r) 12 None
  pub samples : Samples s (end_of s) to r z

-- what is told where a rate is known
record Known (last : Option ℕ) (f : ℕ → Figures) (t : Figures) : Type 0 where
  rate : ℕ
  is : last ≡ Some rate
  rest : f rate ≡ t

module _ {r p z : ℕ} where
  wrong : (n : ℕ) → 0 < n → refused n ≡ found r p z → ⊥
  wrong n h e = let k : n ≡ 0 = ap (λ (t : Figures). t.number) e in omega arith

  tested : (t : Bool) (n : ℕ) (x : Figures) → 0 < n → unless t (refused n) x ≡ found r p z → (t ≡ true) × (x ≡ found r p z)
  tested true n x l h = (refl, h)
  tested false n x l h = absurd (wrong n l h)

  where-known : (last : Option ℕ) (f : ℕ → Figures) → where_known last (refused 12) f ≡ found r p z → Known last f (found r p z)
  where-known None f h = absurd (wrong 12 (omega arith) h)
  where-known (Some rate) f h = record { rate = rate; is = refl; rest = h }

  module _ (s : List ℕ) (least : 4 ≤ riff_size s) (wave : is_wave s ≡ true) where
    at-data : (to : ℕ) (last : Option ℕ) → walk s (riff_size s + 8) ≡ Data to last → samples_at s (end_of s) to last ≡ found r p z → Recording s r p z
    unfolding walk samples_at end_of
    at-data to last w h =
        let f = reached s (end_of s) (suc (length s)) 12 None w in
        let a = tested (leb (to + 8 + size_at s to) (end_of s)) 11 _ (omega arith) h in
        let b = where-known last _ a.1 in
        let c = tested (eqb (size_at s to % 2) 0) 14 _ (omega arith) b.rest in
        let whose : last ≡ Some r = b.is ∙ ap Some (ap (λ (t : Figures). t.rate) c.1) in
        let where_to : to + 8 ≡ p = ap (λ (t : Figures). t.place) c.1 in
        let size : size_at s to ≡ z = ap (λ (t : Figures). t.length) c.1 in
        record {
          wave = wave;
          least = least;
          to = to;
          place = sym where_to;
          trail = rw (← whose) f.trail;
          samples = record {
            named = f.head.named;
            sized = size;
            inside = rw (← size) (leb-true _ _ a.0);
            even = rw (← size) (eqb-true _ _ c.0);
          };
        }

    from-walk : (m : Met) → walk s (riff_size s + 8) ≡ m → samples_of s (end_of s) m ≡ found r p z → Recording s r p z
    unfolding walk end_of
    from-walk (Data to last) w h = at-data to last w h
    from-walk (Stops n) w h = absurd (wrong n (above s (end_of s) (suc (length s)) 12 None w) h)

pub recording : (s : List ℕ) {r p z : ℕ} → read s ≡ found r p z → Recording s r p z
unfolding read end_of
recording s h =
    let a = tested (is_wave s) 10 _ (omega arith) h in
    let b = tested (leb 4 (riff_size s)) 10 _ (omega arith) a.1 in
    from-walk s (leb-true _ _ b.0) a.0 (walk s (riff_size s + 8)) refl b.1

pub reads : {s : List ℕ} {r p z : ℕ} → Recording s r p z → read s ≡ found r p z
unfolding read end_of walk
reads {s} {r} {p} {z} f =
    let e : end_of s - 12 < suc (length s) = omega arith in
    let w = arrives f.trail f.samples (suc (length s)) e in
    rw (f.wave, le-leb 4 (riff_size s) f.least, f.place) (ap (samples_of s (end_of s)) w ∙ samples-there f.samples)
