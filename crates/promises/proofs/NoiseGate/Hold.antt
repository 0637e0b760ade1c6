-- What a gate's calls tell of the hold: a done hold setting its samples and a word, every other call neither.
-- Assumes nothing.
use Rattle.std.specs.Prelude.{Option, Some, None}
use mathlib.Core.Path.{◌≡◌, refl, sym, ap}
use mathlib.Core.Logic.{◌↔◌}
use mathlib.Core.Bool.{Bool, true, false, not, cond}
use native.Mathlib.Omega.{arith}
use lib.Dec.{T}
use lib.Ieee.{Float, eq, to_unsigned}
use Rattle.float.specs.Truncating.{itself, exactness, number}
use Rattle.float.specs.declared.Exactness.TheVariants.{Exact, Cut}
use Rattle.float.proofs.Exactly.{words}
use Rattle.answer.specs.Names.{bytes, same}
use Rattle.answer.specs.Told.{Told, refused, done_hold}
use Rattle.answer.specs.declared.Refusal.{Refusal}
use Rattle.answer.specs.declared.Refusal.TheVariants.{OutOfRange, BadWorkedNumber, BadState}
use Rattle.answer.specs.Refusals as Refusals
use Rattle.answer.proofs.Told.{block-by}
use Rattle.answer.proofs.Refusals.{never_nought}
use Rattle.noise_gate_sample.specs.Step.{hold_product, hold_samples, held, counter}
use Rattle.noise_gate_settings.specs.Ranges.{in_its_range, worked, with_setting}
use Rattle.noise_gate_settings.specs.Names.{named}
use Rattle.noise_gate_settings.specs.declared.Setting.{Setting}
use Rattle.noise_gate_settings.specs.declared.Setting.TheVariants.{Threshold, Ratio, Attack, Release, Hold}
use Rattle.noise_gate.specs.Bounds.{acceptable}
use Rattle.noise_gate.specs.Calls.{gate_of, hold_told, set_typed, set_found, set, reset, block}
use Rattle.noise_gate.specs.declared.Gate.{Gate}
use Rattle.silence.specs.History.{Call, Block, SetTyped, Set, Reset, answered}
use Rattle.silence.proofs.Along.{by}
use Rattle.promises.specs.NoiseGate.{HoldSaid}

-- ---- a typed setting: what holds of every refusal, and of what is told where it is done
typed-by : (g : Gate) (t : Setting) (P : Told Gate → Type 0) → ((r : Refusal) → P (refused g r))
    → (let s = with_setting g.settings t in P (done_hold (gate_of s g.registers) (hold_told s t).0 (hold_told s t).1)) → P (set_typed g t)
unfolding set_typed
typed-by g t P refusals d =
    by P (acceptable g) (refusals BadState) λ _. by P (in_its_range t) (refusals OutOfRange) λ _. by P (worked t) (refusals BadWorkedNumber) λ _. d

-- ---- a done hold setting
never_done : (r : Refusal) → Refusals.number r ≡ 0 → ⊥
never_done r e = never_nought r (sym e)

equal : (t : Bool) → (number (cond t Exact Cut) ≡ 1) ↔ T t
equal true = (λ e. tt, λ h. refl)
equal false = (λ e. omega arith, λ h. absurd h)

unequal : (t : Bool) → (number (cond t Exact Cut) ≡ 2) ↔ T (not t)
unequal true = (λ e. omega arith, λ h. absurd h)
unequal false = (λ e. tt, λ h. refl)

pub hold-said : (g : Gate) (ms : Float) → (set_typed g (Hold ms)).number ≡ 0 → HoldSaid (set_typed g (Hold ms))
unfolding held hold_samples counter exactness
hold-said g ms =
    let x = hold_product (with_setting g.settings (Hold ms)) in
    let same = eq (itself (to_unsigned 64 x)) x in
    typed-by g (Hold ms) (λ (t : Told Gate). t.number ≡ 0 → HoldSaid t) (λ r e. absurd (never_done r e))
    (λ _. record { samples = λ m y l. rw l; exact = equal same; cut = unequal same })

twice : {A : Type 0} (t : Bool) (a b : A) → cond t (cond t a b) b ≡ cond t a b
twice true a b = refl
twice false a b = refl

pub hold-named : (g : Gate) (ms w : Float) → set g (bytes "hold") ms w ≡ set_typed g (Hold ms)
unfolding set set_found set_typed named same
hold-named g ms w = twice (acceptable g) _ _

-- ---- any call
module _ (g : Gate) where
  abbrev Tells : Told Gate → Type 0
  Tells t = (t.word ≡ 0 → t.samples ≡ 0) × ((t.word ≡ 0 → ⊥) → (t.number ≡ 0) × (t ≡ set_typed g (Hold t.state.settings.hold)))

  neither : {t : Told Gate} → t.samples ≡ 0 → t.word ≡ 0 → Tells t
  neither s w = (λ _. s, λ n. absurd (n w))

  abbrev Keeps : Float → Told Gate → Type 0
  Keeps ms t = (t.word ≡ 0 → t.samples ≡ 0) × ((t.word ≡ 0 → ⊥) → (t.number ≡ 0) × (t.state.settings.hold ≡ ms))

  hold-keeps : (ms : Float) → Keeps ms (set_typed g (Hold ms))
  unfolding with_setting
  hold-keeps ms =
      typed-by g (Hold ms) (Keeps ms) (λ r. (λ _. refl, λ n. absurd (n refl)))
      (λ e. absurd (words.never_nought (held (with_setting g.settings (Hold ms))).word e), λ n. (refl, refl))

  typed : (t : Setting) → Tells (set_typed g t)
  typed (Threshold d k) = typed-by g (Threshold d k) Tells (λ r. neither refl refl) (neither refl refl)
  typed (Ratio v) = typed-by g (Ratio v) Tells (λ r. neither refl refl) (neither refl refl)
  typed (Attack v w) = typed-by g (Attack v w) Tells (λ r. neither refl refl) (neither refl refl)
  typed (Release v w) = typed-by g (Release v w) Tells (λ r. neither refl refl) (neither refl refl)
  typed (Hold ms) =
      let k = hold-keeps ms in
      (k.0, λ n. ((k.1 n).0, ap (λ (z : Float). set_typed g (Hold z)) (sym (k.1 n).1)))

  found : (n : Option Setting) → Tells (set_found g n)
  unfolding set_found
  found (Some t) = typed t
  found None = neither refl refl

  pub tells : (c : Call) → Tells (answered g c)
  unfolding answered block set reset
  tells (Block xs out) = block-by g xs out (λ t. Tells t.0) (acceptable g) (λ r. neither refl refl) (λ _ _. neither refl refl)
  tells (SetTyped t) = typed t
  tells (Set name v w) = by Tells (acceptable g) (neither refl refl) λ _. found (named name v w)
  tells Reset = by Tells (acceptable g) (neither refl refl) λ _. neither refl refl
