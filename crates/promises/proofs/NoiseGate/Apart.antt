-- No number is accepted by the gate both as a threshold's dB and as its factor.
-- Assumes nothing.
use mathlib.Core.Path.{◌≡◌}
use native.Mathlib.Omega.{arith}
use lib.Dec.{T}
use lib.Ieee.{Float}
use Rattle.answer.specs.Names.{bytes, same}
use Rattle.answer.specs.Told.{Told}
use Rattle.noise_gate_settings.specs.Ranges.{in_its_range, worked}
use Rattle.noise_gate_settings.specs.Names.{named}
use Rattle.noise_gate_settings.specs.declared.Setting.{Setting}
use Rattle.noise_gate_settings.specs.declared.Setting.TheVariants.{Threshold}
use Rattle.noise_gate.specs.Bounds.{acceptable}
use Rattle.noise_gate.specs.Calls.{set_typed, set_found, set}
use Rattle.noise_gate.specs.declared.Gate.{Gate}
use Rattle.silence.proofs.Along.{by}
use Rattle.promises.proofs.Apart.{never_both}

-- ---- what a done setting says of its numbers
abbrev InRange : Setting → Told Gate → Type 0
InRange t r = r.number ≡ 0 → T (in_its_range t) × T (worked t)

typed-in : (g : Gate) (t : Setting) → InRange t (set_typed g t)
unfolding set_typed
typed-in g t =
    by (InRange t) (acceptable g) (λ e. absurd (omega arith)) λ _.
    by (InRange t) (in_its_range t) (λ e. absurd (omega arith)) λ r.
    by (InRange t) (worked t) (λ e. absurd (omega arith)) λ w e. (r, w)

abbrev threshold : Float → Float → Setting
threshold x y = Threshold (record { 0 = x }) (record { 0 = y })

named_in : (g : Gate) (x y : Float) → InRange (threshold x y) (set g (bytes "threshold") x y)
unfolding set set_found named same
named_in g x y = by (InRange (threshold x y)) (acceptable g) (λ e. absurd (omega arith)) λ _. typed-in g (threshold x y)

module _ (x y z : Float) where
  apart : T (in_its_range (threshold x y)) → T (worked (threshold z x)) → ⊥
  unfolding in_its_range worked
  apart d k = never_both x d k

pub typed-apart : (g h : Gate) (x y z : Float) → (set_typed g (threshold x y)).number ≡ 0 → (set_typed h (threshold z x)).number ≡ 0 → ⊥
typed-apart g h x y z d k = apart x y z (typed-in g (threshold x y) d).0 (typed-in h (threshold z x) k).1

pub named-apart : (g h : Gate) (x y z : Float) → (set g (bytes "threshold") x y).number ≡ 0 → (set h (bytes "threshold") z x).number ≡ 0 → ⊥
named-apart g h x y z d k = apart x y z (named_in g x y d).0 (named_in h z x k).1
