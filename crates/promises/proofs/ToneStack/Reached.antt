-- Settings that 9 accepts are left by some making and four settings: a control in its range is its own clamp.
-- Assumes nothing.
use mathlib.Core.Path.{◌≡◌, refl, sym, ap, ◌∙◌}
use mathlib.Core.Bool.{Bool, true, false, ◌&&◌, ◌||◌, true≢false}
use mathlib.Core.List.{List, [], ◌∷◌}
use mathlib.Core.Logic.{◌⊎◌, inl, inr}
use Prim.Native.Nat.{ℕ, zero, suc, ◌+◌, ◌*◌}
use native.Mathlib.Omega.{arith}
use lib.Dec.{leb, ltb, eqb}
use lib.Ieee.{Float, nan, inf, fin, up, down, below, level, lt, le, eq}
use borrow.Author.Tests.{ltb-true, leb-true, eqb-true, le-ltb, eq-eqb}
use Rattle.answer.specs.Figures.{nought}
use Rattle.answer.specs.Checks.{is_rate}
use Rattle.answer.specs.Told.{Told, done}
use Rattle.common.specs.declared.frequencies.Model.{Model}
use Rattle.tonestack_sample.specs.Models.{last_model, number_of, model_of}
use Rattle.tonestack_sample.specs.Ranges.{highest_control, value, is_number, worked, clamped, with_setting, is_control, is_factor, settable}
use Rattle.tonestack_sample.specs.declared.Settings.{Settings}
use Rattle.tonestack_sample.specs.declared.Registers.{Registers}
use Rattle.tonestack_sample.specs.declared.Setting.{Setting}
use Rattle.tonestack_sample.specs.declared.Setting.TheVariants.{Bass, Mid, Treble, Presence}
use Rattle.tonestack.specs.Calls.{tone_of, acceptable, at_rest, made_settings, make, set_typed}
use Rattle.tonestack.specs.declared.Tone.{Tone}
use Rattle.promises.specs.ToneStack.{set_all, ByCalls}
use Rattle.promises.proofs.ToneStack.Clamped.{split, made-settable, still-settable}

-- ---- a number that lies at or above another is not below it, and equals itself
either-of : (p q r : Bool) → p || (q && r) ≡ true → (p ≡ true) ⊎ ((q ≡ true) × (r ≡ true))
either-of true q r h = inl refl
either-of false true r h = inr (refl, h)
either-of false false r h = absurd (true≢false (sym h))

signed : (s : Bool) (a : ℕ) (t : Bool) (b : ℕ) → below t b s a || level t b s a ≡ true → below s a t b ≡ false
signed false a false b h = elim (either-of (ltb b a) (eqb b a) true h) [
  | inl l ↦ le-ltb a b (omega (arith, ltb-true b a l))
  | inr e ↦ le-ltb a b (omega (arith, eqb-true b a e.0))
]
signed false a true b h = refl
signed true a false b h = elim (either-of false (eqb b a) (eqb b 0) h) [
  | inl f ↦ absurd (true≢false (sym f))
  | inr e ↦ le-ltb 0 (a + b) (omega (arith, eqb-true b a e.0, eqb-true b 0 e.1))
]
signed true a true b h = elim (either-of (ltb a b) (eqb b a) true h) [
  | inl l ↦ le-ltb b a (omega (arith, ltb-true a b l))
  | inr e ↦ le-ltb b a (omega (arith, eqb-true b a e.0))
]

at_least : (x y : Float) → le y x ≡ true → lt x y ≡ false
unfolding lt le eq
at_least nan y h = refl
at_least (inf s) nan h = refl
at_least (inf true) (inf true) h = refl
at_least (inf true) (inf false) h = absurd (true≢false (sym h))
at_least (inf false) (inf t) h = refl
at_least (inf true) (fin t n d) h = absurd (true≢false (sym h))
at_least (inf false) (fin t n d) h = refl
at_least (fin s m e) nan h = refl
at_least (fin s m e) (inf true) h = refl
at_least (fin s m e) (inf false) h = absurd (true≢false (sym h))
at_least (fin s m e) (fin t n d) h = signed s (m * up e * down d) t (n * up d * down e) h

itself : (s : Bool) (a : ℕ) → level s a s a ≡ true
itself true a = rw (eq-eqb a a refl)
itself false a = rw (eq-eqb a a refl)

own-equal : (x y : Float) → le y x ≡ true → eq x x ≡ true
unfolding lt le eq
own-equal nan nan h = absurd (true≢false (sym h))
own-equal nan (inf t) h = absurd (true≢false (sym h))
own-equal nan (fin t n d) h = absurd (true≢false (sym h))
own-equal (inf true) y h = refl
own-equal (inf false) y h = refl
own-equal (fin s m e) y h = itself s (m * up e * down e)

-- ---- a control's value
control-number : (v : Float) → is_control v ≡ true → eq v v ≡ true
unfolding is_control
control-number v h = own-equal v nought (split h).0

control-clamped : (v : Float) → is_control v ≡ true → clamped v ≡ v
unfolding is_control clamped
control-clamped v h =
    let within = split {a = le nought v} {b = le v highest_control} h in
    rw (at_least v nought within.0, at_least highest_control v within.1)

-- ---- settings, one after the other, each of a number with a factor that is taken
abbrev Taken : List Setting → Type 0
Taken [] = Unit {0}
Taken (v ∷ vs) = (is_number v ≡ true) × (worked v ≡ true) × Taken vs

abbrev with_all : Settings → List Setting → Settings
with_all s [] = s
with_all s (v ∷ vs) = with_all (with_setting s v) vs

set-done : (s : Settings) (m : Registers) (v : Setting) → settable s ≡ true → is_number v ≡ true → worked v ≡ true → set_typed (tone_of s m) v ≡ done (tone_of (with_setting s v) m)
unfolding set_typed acceptable
set-done s m v h n w = rw (h, n, w)

all_set : (s : Settings) (m : Registers) (vs : List Setting) → settable s ≡ true → Taken vs → (set_all (tone_of s m) vs).settings ≡ with_all s vs
all_set s m [] h k = refl
all_set s m (v ∷ vs) h k = ap (λ (t : Told Tone). (set_all t.state vs).settings) (set-done s m v h k.0 k.1) ∙ (all_set (with_setting s v) m vs (still-settable s v h k.0 k.1) k.2)

-- ---- settings that 9 accepts
number-back : (n : ℕ) → leb n last_model ≡ true → number_of (model_of n) ≡ n
unfolding number_of model_of
number-back zero h = refl
number-back (suc zero) h = refl
number-back (suc (suc zero)) h = refl
number-back (suc (suc (suc zero))) h = refl
number-back (suc (suc (suc (suc n)))) h = absurd (omega (arith, leb-true (suc (suc (suc (suc n)))) last_model h))

record Parts (s : Settings) : Type 0 where
  rate : is_rate s.rate ≡ true
  model : leb s.model last_model ≡ true
  bass : is_control s.bass ≡ true
  mid : is_control s.mid ≡ true
  treble : is_control s.treble ≡ true
  presence : is_control s.presence ≡ true
  factor : is_factor s.factor ≡ true

parts : (s : Settings) → settable s ≡ true → Parts s
unfolding settable
parts s h =
    let rate = split h in
    let model = split rate.1 in
    let bass = split model.1 in
    let mid = split bass.1 in
    let treble = split mid.1 in
    let presence = split treble.1 in
    record { rate = rate.0; model = model.0; bass = bass.0; mid = mid.0; treble = treble.0; presence = presence.0; factor = presence.1 }

module _ (t : Tone) (p : Parts t.settings) where
  abbrev model : Model
  model = model_of t.settings.model

  abbrev sets : List Setting
  sets = Bass t.settings.bass ∷ Mid t.settings.mid ∷ Treble t.settings.treble ∷ Presence t.settings.presence t.settings.factor ∷ []

  taken : Taken sets
  unfolding is_number value worked
  taken = (control-number _ p.bass, refl, (control-number _ p.mid, refl, (control-number _ p.treble, refl, (control-number _ p.presence, p.factor, tt))))

  made-is : make model t.settings.rate ≡ done (tone_of (made_settings model t.settings.rate) at_rest)
  unfolding make
  made-is = rw p.rate

  all_back : with_all (made_settings model t.settings.rate) sets ≡ t.settings
  unfolding with_setting made_settings
  all_back = rw (number-back t.settings.model p.model, control-clamped _ p.bass, control-clamped _ p.mid, control-clamped _ p.treble, control-clamped _ p.presence)

  by-calls : ByCalls t
  by-calls = record {
    model = model;
    rate = t.settings.rate;
    sets = sets;
    made = rw made-is;
    same = rw made-is (all_set (made_settings model t.settings.rate) at_rest sets (made-settable model t.settings.rate p.rate) taken ∙ all_back);
  }

pub reached : (t : Tone) → acceptable t ≡ true → ByCalls t
unfolding acceptable
reached t h = by-calls t (parts t.settings h)
