-- No number is accepted by the leveller both as a threshold's dB and as its factor.
-- Assumes nothing.
use mathlib.Core.Path.{◌≡◌}
use native.Mathlib.Omega.{arith}
use lib.Dec.{T}
use lib.Ieee.{Float}
use Rattle.answer.specs.Names.{bytes, same}
use Rattle.answer.specs.Told.{Told}
use Rattle.leveller_settings.specs.Ranges.{in_its_range, worked}
use Rattle.leveller_settings.specs.Names.{named}
use Rattle.leveller_settings.specs.declared.Setting.{Setting}
use Rattle.leveller_settings.specs.declared.Setting.TheVariants.{Threshold}
use Rattle.leveller.specs.Bounds.{acceptable}
use Rattle.leveller.specs.Calls.{set_typed, set_found, set}
use Rattle.leveller.specs.declared.Leveller.{Leveller}
use Rattle.silence.proofs.Along.{by}
use Rattle.promises.proofs.Apart.{never_both}

-- ---- what a done setting says of its numbers
abbrev InRange : Setting → Told Leveller → Type 0
InRange t r = r.number ≡ 0 → T (in_its_range t) × T (worked t)

typed-in : (l : Leveller) (t : Setting) → InRange t (set_typed l t)
unfolding set_typed
typed-in l t =
    by (InRange t) (acceptable l) (λ e. absurd (omega arith)) λ _.
    by (InRange t) (in_its_range t) (λ e. absurd (omega arith)) λ r.
    by (InRange t) (worked t) (λ e. absurd (omega arith)) λ w e. (r, w)

abbrev threshold : Float → Float → Setting
threshold x y = Threshold (record { 0 = x }) (record { 0 = y })

named_in : (l : Leveller) (x y : Float) → InRange (threshold x y) (set l (bytes "threshold") x y)
unfolding set set_found named same
named_in l x y = by (InRange (threshold x y)) (acceptable l) (λ e. absurd (omega arith)) λ _. typed-in l (threshold x y)

module _ (x y z : Float) where
  apart : T (in_its_range (threshold x y)) → T (worked (threshold z x)) → ⊥
  unfolding in_its_range worked
  apart d k = never_both x d k

pub typed-apart : (l k : Leveller) (x y z : Float) → (set_typed l (threshold x y)).number ≡ 0 → (set_typed k (threshold z x)).number ≡ 0 → ⊥
typed-apart l k x y z d e = apart x y z (typed-in l (threshold x y) d).0 (typed-in k (threshold z x) e).1

pub named-apart : (l k : Leveller) (x y z : Float) → (set l (bytes "threshold") x y).number ≡ 0 → (set k (bytes "threshold") z x).number ≡ 0 → ⊥
named-apart l k x y z d e = apart x y z (named_in l x y d).0 (named_in k z x e).1
