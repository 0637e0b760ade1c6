-- What 9 accepts of settings is what making and calls can leave: every call keeps it, and five settings after a making give it.
-- Assumes nothing.
use Rattle.std.specs.Prelude.{Option, Some, None}
use mathlib.Core.Path.{◌≡◌, refl, ap, ◌∙◌, subst}
use mathlib.Core.Bool.{◌&&◌}
use mathlib.Core.List.{List, [], ◌∷◌}
use native.Mathlib.Omega.{arith}
use lib.Dec.{T}
use lib.Ieee.{Float, le, lt, neg}
use lib.Ieee.Fits.{and_i, and_l, and_r}
use lib.Ieee.Bits.{is_true}
use Rattle.answer.specs.Figures.{f32}
use Rattle.answer.specs.Checks.{is_rate, is_smoothing}
use Rattle.answer.specs.Told.{Told}
use Rattle.answer.proofs.Told.{block-by}
use Rattle.noise_gate_settings.specs.Ranges.{in_its_range, worked, allowed, with_setting, settable}
use Rattle.noise_gate_settings.specs.Names.{named}
use Rattle.noise_gate_settings.specs.declared.Settings.{Settings}
use Rattle.noise_gate_settings.specs.declared.Setting.{Setting}
use Rattle.noise_gate_settings.specs.declared.Setting.TheVariants.{Threshold, Ratio, Attack, Release, Hold}
use Rattle.noise_gate.specs.Bounds.{in_bounds, acceptable}
use Rattle.noise_gate.specs.Calls.{gate_of, at_rest, made_settings, make, set_typed, set_found, set, reset, block}
use Rattle.noise_gate.specs.declared.Gate.{Gate}
use Rattle.silence.specs.History.{Call, Block, SetTyped, Set, Reset, answered, carried, all_f32, InF32, SettingsF32}
use Rattle.silence.proofs.Along.{by}
use Rattle.promises.specs.NoiseGate.{Reached}

-- ---- settings that 9 accepts, part by part
record Parts (s : Settings) : Type 0 where
  rate : T (is_rate s.rate)
  threshold : T (allowed (Threshold s.threshold s.factor))
  ratio : T (allowed (Ratio s.ratio))
  attack : T (allowed (Attack s.attack.ms s.attack.number))
  release : T (allowed (Release s.release.ms s.release.number))
  hold : T (allowed (Hold s.hold))
  rising : T (is_smoothing s.rising)
  falling : T (is_smoothing s.falling)

parts : (s : Settings) → T (settable s) → Parts s
unfolding settable
parts s t = search (and_l, and_r) depth 13

together : (s : Settings) → Parts s → T (settable s)
unfolding settable
together s p = search and_i depth 9

made-settable : (rate rising falling : Float) → T (is_rate rate) → T (is_smoothing rising) → T (is_smoothing falling) → T (settable (made_settings rate rising falling))
unfolding made_settings allowed in_its_range worked is_smoothing f32 le lt neg
made-settable rate rising falling r p q =
    together (made_settings rate rising falling) (record { rate = r; threshold = tt; ratio = tt; attack = tt; release = tt; hold = tt; rising = p; falling = q })

set-parts : (s : Settings) (t : Setting) → Parts s → T (allowed t) → Parts (with_setting s t)
unfolding with_setting
set-parts s (Threshold d k) p a = search
set-parts s (Ratio r) p a = search
set-parts s (Attack t c) p a = search
set-parts s (Release t c) p a = search
set-parts s (Hold t) p a = search

set-settable : (s : Settings) (t : Setting) → T (settable s) → T (allowed t) → T (settable (with_setting s t))
set-settable s t k a = together (with_setting s t) (set-parts s t (parts s k) a)

-- ---- every call keeps it
abbrev Keeps : Told Gate → Type 0
Keeps t = T (settable t.state.settings)

module _ (g : Gate) (k : T (settable g.settings)) where
  typed-keeps : (t : Setting) → Keeps (set_typed g t)
  unfolding set_typed allowed
  typed-keeps t =
      by Keeps (acceptable g) k λ _.
      by Keeps (in_its_range t) k λ r.
      by Keeps (worked t) k λ w.
      set-settable g.settings t k (and_i (in_its_range t) (worked t) r w)

  found-keeps : (n : Option Setting) → Keeps (set_found g n)
  unfolding set_found
  found-keeps (Some t) = typed-keeps t
  found-keeps None = k

  call-keeps : (c : Call) → Keeps (answered g c)
  unfolding answered block set reset
  call-keeps (Block xs out) = block-by g xs out (λ t. Keeps t.0) (acceptable g) (λ r. k) (λ _ _. k)
  call-keeps (SetTyped t) = typed-keeps t
  call-keeps (Set name v w) = by Keeps (acceptable g) k λ _. found-keeps (named name v w)
  call-keeps Reset = by Keeps (acceptable g) k λ _. k

calls-keep : (g : Gate) (cs : List Call) → T (settable g.settings) → T (settable (carried g cs).settings)
unfolding carried
calls-keep g [] k = k
calls-keep g (c ∷ cs) k = calls-keep (answered g c).state cs (call-keeps g k c)

made-keeps : (rate rising falling : Float) → (make rate rising falling).number ≡ 0 → Keeps (make rate rising falling)
unfolding make
made-keeps rate rising falling =
    let From : Told Gate → Type 0 = λ t. t.number ≡ 0 → Keeps t in
    by From (is_rate rate) (λ e. absurd (omega arith)) λ r.
    by From (is_smoothing rising && is_smoothing falling) (λ e. absurd (omega arith)) λ w e.
    made-settable rate rising falling r (and_l (is_smoothing rising) (is_smoothing falling) w) (and_r (is_smoothing rising) (is_smoothing falling) w)

pub reached-settable : (s : Settings) → Reached s → T (settable s)
reached-settable s r =
    subst (λ (t : Settings). T (settable t)) r.left
    (calls-keep (make r.rate r.rising r.falling).state r.since (made-keeps r.rate r.rising r.falling r.made))

-- ---- and it is reached: what settings that are allowed leave of a gate at rest
abbrev as_calls : List Setting → List Call
as_calls [] = []
as_calls (t ∷ ts) = SetTyped t ∷ as_calls ts

abbrev with_all : Settings → List Setting → Settings
with_all s [] = s
with_all s (t ∷ ts) = with_all (with_setting s t) ts

abbrev AllAllowed : List Setting → Type 0
AllAllowed [] = Unit {0}
AllAllowed (t ∷ ts) = T (allowed t) × AllAllowed ts

set-done : (s : Settings) (t : Setting) → T (settable s) → T (allowed t) → (set_typed (gate_of s at_rest) t).state ≡ gate_of (with_setting s t) at_rest
unfolding set_typed acceptable allowed in_bounds le f32
set-done s t k a = rw (is_true (settable s) k, is_true (in_its_range t) (and_l (in_its_range t) (worked t) a), is_true (worked t) (and_r (in_its_range t) (worked t) a))

all_set : (s : Settings) (ts : List Setting) → T (settable s) → AllAllowed ts → carried (gate_of s at_rest) (as_calls ts) ≡ gate_of (with_all s ts) at_rest
unfolding carried answered
all_set s [] k a = refl
all_set s (t ∷ ts) k a = ap (λ (g : Gate). carried g (as_calls ts)) (set-done s t k a.0) ∙ all_set (with_setting s t) ts (set-settable s t k a.0) a.1

-- its own five, after a making with its own rate and follower's numbers
abbrev own : Settings → List Setting
own s = Threshold s.threshold s.factor ∷ Ratio s.ratio ∷ Attack s.attack.ms s.attack.number ∷ Release s.release.ms s.release.number ∷ Hold s.hold ∷ []

all_own : (s : Settings) → with_all (made_settings s.rate s.rising s.falling) (own s) ≡ s
unfolding with_setting made_settings
all_own s = refl

own-f32 : (s : Settings) → SettingsF32 s → T (all_f32 (s.rate ∷ s.rising ∷ s.falling ∷ [])) × InF32 (as_calls (own s))
own-f32 s f = search (and_i, and_l, and_r) depth 13

made-is : (rate rising falling : Float) → T (is_rate rate) → T (is_smoothing rising) → T (is_smoothing falling)
    → ((make rate rising falling).number ≡ 0) × ((make rate rising falling).state ≡ gate_of (made_settings rate rising falling) at_rest)
unfolding make
made-is rate rising falling r p q = rw (is_true (is_rate rate) r, is_true (is_smoothing rising) p, is_true (is_smoothing falling) q) (refl, refl)

pub settable-reached : (s : Settings) → T (settable s) → Reached s
settable-reached s k =
    let p = parts s k in
    let m = made-is s.rate s.rising s.falling p.rate p.rising p.falling in
    let ready = made-settable s.rate s.rising s.falling p.rate p.rising p.falling in
    record {
      rate = s.rate;
      rising = s.rising;
      falling = s.falling;
      made = m.0;
      since = as_calls (own s);
      left = rw m.1 (ap (λ (g : Gate). g.settings) (all_set (made_settings s.rate s.rising s.falling) (own s) ready (p.threshold, (p.ratio, (p.attack, (p.release, (p.hold, tt)))))) ∙ all_own s);
      by_f32 = own-f32 s;
    }
