-- Every number, once clamped, is a control's value; and a making that is done and a setting that is taken leave settings that could have been set.
-- Assumes nothing.
use mathlib.Core.Path.{◌≡◌, refl, sym}
use mathlib.Core.Bool.{Bool, true, false, not, ◌&&◌, cond, true≢false}
use lib.Dec.{T, leb}
use lib.Ieee.{Float, nan, inf, fin, lt, le, eq, is_nan}
use Rattle.answer.specs.Figures.{f32, nought}
use Rattle.answer.specs.Checks.{is_rate}
use Rattle.common.specs.declared.frequencies.Model.{Model}
use Rattle.common.specs.declared.frequencies.Model.TheVariants.{Modern, British, American, Flat}
use Rattle.tonestack_sample.specs.Models.{last_model, number_of}
use Rattle.tonestack_sample.specs.Ranges.{highest_control, value, is_number, worked, clamped, with_setting, is_control, is_factor, settable}
use Rattle.tonestack_sample.specs.declared.Settings.{Settings}
use Rattle.tonestack_sample.specs.declared.Setting.{Setting}
use Rattle.tonestack_sample.specs.declared.Setting.TheVariants.{Bass, Mid, Treble, Presence}
use Rattle.tonestack.specs.Calls.{made_settings}
use Rattle.promises.proofs.Order.{not-below as numbers-not-below}

-- ---- a number equals itself, and NaN does not
is-number : (x : Float) → eq x x ≡ true → T (not (is_nan x))
unfolding eq is_nan
is-number nan h = absurd (true≢false (sym h))
is-number (inf s) h = tt
is-number (fin s m e) h = tt

holds : {b : Bool} → T b → b ≡ true
holds {b = true} h = refl
holds {b = false} h = absurd h

not-below : (x y : Float) → eq x x ≡ true → eq y y ≡ true → lt x y ≡ false → le y x ≡ true
not-below x y p q h = holds (numbers-not-below x y (is-number x p) (is-number y q) h)

-- ---- a clamped number
lowest-control : is_control nought ≡ true
unfolding is_control le lt eq f32
lowest-control = refl

highest-control : is_control highest_control ≡ true
unfolding is_control le lt eq f32
highest-control = refl

highest-number : eq highest_control highest_control ≡ true
unfolding eq f32
highest-number = refl

nought-number : eq nought nought ≡ true
unfolding eq
nought-number = refl

pub clamped-control : (v : Float) → eq v v ≡ true → is_control (clamped v) ≡ true
unfolding clamped is_control
clamped-control v number = low (lt v nought) refl
  where
    high : (t : Bool) → lt highest_control v ≡ t → lt v nought ≡ false → is_control (cond t highest_control v) ≡ true
    high true q p = highest-control
    high false q p = rw (not-below v nought number nought-number p, not-below highest_control v highest-number number q)

    low : (t : Bool) → lt v nought ≡ t → is_control (cond t nought (cond (lt highest_control v) highest_control v)) ≡ true
    low true p = lowest-control
    low false p = high (lt highest_control v) refl p

-- ---- a making that is done
pub made-settable : (model : Model) (rate : Float) → is_rate rate ≡ true → settable (made_settings model rate) ≡ true
unfolding settable made_settings number_of is_control is_factor le lt eq f32
made-settable Modern rate h = rw h
made-settable British rate h = rw h
made-settable American rate h = rw h
made-settable Flat rate h = rw h

-- ---- a setting that is taken
pub split : {a b : Bool} → (a && b) ≡ true → (a ≡ true) × (b ≡ true)
split {a = true} h = (refl, h)
split {a = false} h = absurd (true≢false (sym h))

pub still-settable : (s : Settings) (t : Setting) → settable s ≡ true → is_number t ≡ true → worked t ≡ true → settable (with_setting s t) ≡ true
unfolding settable with_setting is_number value worked
still-settable s t h number w =
    let rate = split h in
    let model = split rate.1 in
    let bass = split model.1 in
    let mid = split bass.1 in
    let treble = split mid.1 in
    let presence = split treble.1 in
    go t number w rate.0 model.0 bass.0 mid.0 treble.0 presence.0 presence.1
  where
    go : (t : Setting) → eq (value t) (value t) ≡ true → worked t ≡ true → is_rate s.rate ≡ true → leb s.model last_model ≡ true → is_control s.bass ≡ true → is_control s.mid ≡ true → is_control s.treble ≡ true → is_control s.presence ≡ true → is_factor s.factor ≡ true → settable (with_setting s t) ≡ true
    go (Bass v) number w r m b d e p k = rw (r, m, clamped-control v number, d, e, p, k)
    go (Mid v) number w r m b d e p k = rw (r, m, b, clamped-control v number, e, p, k)
    go (Treble v) number w r m b d e p k = rw (r, m, b, d, clamped-control v number, p, k)
    go (Presence v f) number w r m b d e p k = rw (r, m, b, d, e, clamped-control v number, w)
