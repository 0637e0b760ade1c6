-- The walk's budget never runs out: any that is larger than what is left of the bytes gives the same answer.
-- Assumes nothing.
use Prim.Native.Nat.{ℕ, zero, suc, ◌-◌, ◌≤◌, ◌<◌}
use native.Mathlib.Nat.{not-suc-le-zero}
use native.Mathlib.Omega.{arith}
use mathlib.Core.Path.{◌≡◌, refl, sym, ◌∙◌, ap}
use mathlib.Core.List.{List}
use lib.ListN.{length}
use Rattle.std.specs.Prelude.{Option, None}
use Rattle.wave.specs.Reading.{Met, Step, Ends, On, follow, step, chunks}
use Rattle.wave.proofs.Turns.{goes}

module _ (s : List ℕ) (end : ℕ) where
  pub enough : (k m at : ℕ) (rate : Option ℕ) → end - at < k → end - at < m → chunks s end k at rate ≡ chunks s end m at rate
  unfolding chunks
  enough zero m at rate h l = absurd (not-suc-le-zero h)
  enough (suc k) zero at rate h l = absurd (not-suc-le-zero l)
  enough (suc k) (suc m) at rate h l = go (step s end at rate) refl (enough k m)
    where
      go : (t : Step) → step s end at rate ≡ t → ((at : ℕ) (rate : Option ℕ) → end - at < k → end - at < m → chunks s end k at rate ≡ chunks s end m at rate) → follow t (chunks s end k) ≡ follow t (chunks s end m)
      go (Ends w) e again = refl
      go (On next known) e again =
          let g = goes s end at rate next known e in
          let a : end - next < k = omega (arith, g.head, g.place, g.inside, h) in
          let b : end - next < m = omega (arith, g.head, g.place, g.inside, l) in
          again next known a b

  -- ---- the whole walk, whatever was walked of it
  abbrev pub all : Met
  all = chunks s end (suc (length s)) 12 None

  pub record Left (at : ℕ) (rate : Option ℕ) : Type 0 where
    pub within : end ≤ length s
    pub rest : all ≡ chunks s end (suc (length s)) at rate

module _ {s : List ℕ} {end at : ℕ} {rate : Option ℕ} (u : Left s end at rate) where
  -- one chunk of it
  first : (t : Step) → step s end at rate ≡ t → all s end ≡ follow t (chunks s end (suc (length s)))
  unfolding chunks
  first t e =
      let a : end - at < suc (length s) = omega (arith, u.within) in
      let b : end - at < suc (suc (length s)) = omega (arith, u.within) in
      u.rest ∙ enough s end (suc (length s)) (suc (suc (length s))) at rate a b ∙ ap (λ (x : Step). follow x (chunks s end (suc (length s)))) e

  pub last : {m : Met} → step s end at rate ≡ Ends m → m ≡ all s end
  last {m} e = sym (first (Ends m) e)

  module _ {next : ℕ} {known : Option ℕ} (e : step s end at rate ≡ On next known) where
    pub ahead : end - next < end - at
    ahead = let g = goes s end at rate next known e in omega (arith, g.head, g.place, g.inside)

    pub onward : Left s end next known
    onward = record { within = u.within; rest = first (On next known) e }
