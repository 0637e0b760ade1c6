-- A leveller whose making was done is accepted after any calls, of f32s; and whatever 9 accepts is what some calls leave.
-- Assumes nothing.
use Rattle.std.specs.Prelude.{Option, Some, None}
use mathlib.Core.Path.{◌≡◌, refl, ap, ◌∙◌}
use mathlib.Core.Bool.{true, ◌&&◌}
use mathlib.Core.List.{List, [], ◌∷◌}
use Prim.Native.Nat.{ℕ}
use native.Mathlib.Omega.{arith}
use lib.Dec.{T}
use lib.ListN.{length}
use lib.Ieee.{Float, nan, binary32, fits}
use lib.Ieee.Fits.{and_i, and_l, and_r}
use lib.Ieee.Bits.{is_true}
use Rattle.rounding.proofs.Smoothing.{sixty-four, In}
use Rattle.answer.specs.Checks.{is_rate, is_smoothing}
use Rattle.answer.specs.Names.{bytes, same}
use Rattle.answer.specs.Told.{Told}
use Rattle.answer.proofs.Blocks.{accepted}
use Rattle.answer.proofs.Told.{block-by}
use Rattle.fold.specs.Fold.{state_after}
use Rattle.leveller_settings.specs.Ranges.{in_its_range, worked, allowed, with_setting, settable}
use Rattle.leveller_settings.specs.Names.{named}
use Rattle.leveller_settings.specs.declared.Settings.{Settings}
use Rattle.leveller_settings.specs.declared.Setting.{Setting}
use Rattle.leveller_settings.specs.declared.Setting.TheVariants.{Threshold, Ratio, Attack, Release, Makeup}
use Rattle.leveller_sample.specs.Step.{next}
use Rattle.leveller_sample.specs.declared.Registers.{Registers}
use Rattle.leveller.specs.Bounds.{acceptable}
use Rattle.leveller.specs.Calls.{leveller_of, at_rest, made_settings, make, set_typed, set_found, set, reset, after, block}
use Rattle.leveller.specs.declared.Leveller.{Leveller}
use Rattle.silence.specs.History.{all_f32}
use Rattle.silence.proofs.Along.{WithinRange, within, by}
use Rattle.silence.proofs.OneSample.{either}
use Rattle.promises.specs.LevellerCalls.{Call, Block, SetTyped, Set, Reset, answered, carried, floats_of, InF32, SettingsF32}
use Rattle.promises.specs.Leveller.{Reached}
use Rattle.promises.proofs.Leveller.Settable.{Allowed, Settable, made-settable, set-settable, rest-bounded, accepts, is-settable, attack-number, release-number}
use Rattle.promises.proofs.Leveller.Sample.{next-in}

-- ---- what is kept
pub record Sound (l : Leveller) : Type 0 where
  pub settable : Settable l.settings
  pub level : In binary32 sixty-four l.registers.level

-- ---- the samples of a block that is done
pub whole-block : (s : Settings) (m : Registers) (xs : List Float) → Sound (leveller_of s m) → T (all_f32 xs) → WithinRange xs → Sound (leveller_of s (after s m xs))
unfolding state_after
whole-block s m [] k f w = k
whole-block s m (x ∷ xs) k f w =
    let one_more : Sound (leveller_of s (next s m x)) = record { settable = k.settable; level = next-in s m x k.settable k.level (and_l (fits binary32 x) (all_f32 xs) f) w.0 } in
    whole-block s (next s m x) xs one_more (and_r (fits binary32 x) (all_f32 xs) f) w.1

-- a name's setting is made of the numbers beside it
abbrev NamedF32 : Option Setting → Type 0
NamedF32 (Some t) = T (all_f32 (floats_of (SetTyped t)))
NamedF32 None = Unit {0}

named-f32 : (name : List ℕ) (v w : Float) → T (all_f32 (v ∷ w ∷ [])) → NamedF32 (named name v w)
unfolding named
named-f32 name v w f =
    let first : T (all_f32 (v ∷ [])) = and_i (fits binary32 v) true (and_l (fits binary32 v) (all_f32 (w ∷ [])) f) tt in
    either NamedF32 (same name (bytes "threshold")) f
    (either NamedF32 (same name (bytes "ratio")) first
    (either NamedF32 (same name (bytes "attack")) f
    (either NamedF32 (same name (bytes "release")) f
    (either NamedF32 (same name (bytes "makeup")) first tt))))

-- ---- every call keeps it
abbrev Keeps : Told Leveller → Type 0
Keeps t = Sound t.state

module _ (l : Leveller) (k : Sound l) where
  typed-keeps : (t : Setting) → T (all_f32 (floats_of (SetTyped t))) → Keeps (set_typed l t)
  unfolding set_typed allowed
  typed-keeps t f =
      by Keeps (acceptable l) k λ _.
      by Keeps (in_its_range t) k λ r.
      by Keeps (worked t) k λ w.
      record { settable = set-settable l.settings t k.settable (and_i (in_its_range t) (worked t) r w, f); level = k.level }

  found-keeps : (n : Option Setting) → NamedF32 n → Keeps (set_found l n)
  unfolding set_found
  found-keeps (Some t) f = typed-keeps t f
  found-keeps None f = k

  call-keeps : (c : Call) → T (all_f32 (floats_of c)) → Keeps (answered l c)
  unfolding answered block set reset
  call-keeps (Block xs out) f =
      block-by l xs out (λ t. Keeps t.0) (acceptable l) (λ r. k)
      (λ _ e. whole-block l.settings l.registers xs k f (within xs (λ i. (accepted xs (length out) e).none-refused i nan)))
  call-keeps (SetTyped t) f = typed-keeps t f
  call-keeps (Set name v w) f = by Keeps (acceptable l) k λ _. found-keeps (named name v w) (named-f32 name v w f)
  call-keeps Reset f = by Keeps (acceptable l) k λ _. record { settable = k.settable; level = rest-bounded }

calls-keep : (l : Leveller) (cs : List Call) → Sound l → InF32 cs → Sound (carried l cs)
unfolding carried
calls-keep l [] k f = k
calls-keep l (c ∷ cs) k f = calls-keep (answered l c).state cs (call-keeps l k c f.0) f.1

-- ---- from making on
made-keeps : (rate rising falling : Float) → T (all_f32 (rate ∷ rising ∷ falling ∷ [])) → (make rate rising falling).number ≡ 0 → Keeps (make rate rising falling)
unfolding make
made-keeps rate rising falling f =
    let From : Told Leveller → Type 0 = λ t. t.number ≡ 0 → Keeps t in
    by From (is_rate rate) (λ e. absurd (omega arith)) λ r.
    by From (is_smoothing rising && is_smoothing falling) (λ e. absurd (omega arith)) λ w e.
    record { settable = made-settable rate rising falling (r, search and_l) (search and_l, search (and_l, and_r)) (search and_r, search (and_l, and_r)); level = rest-bounded }

pub carried_on : (rate rising falling : Float) → T (all_f32 (rate ∷ rising ∷ falling ∷ [])) → (make rate rising falling).number ≡ 0
    → (cs : List Call) → InF32 cs → Sound (carried (make rate rising falling).state cs)
carried_on rate rising falling f d cs fs = calls-keep (make rate rising falling).state cs (made-keeps rate rising falling f d) fs

-- ---- and all of it is reached: what settings that are allowed leave of a leveller at rest
abbrev as_calls : List Setting → List Call
as_calls [] = []
as_calls (t ∷ ts) = SetTyped t ∷ as_calls ts

abbrev with_all : Settings → List Setting → Settings
with_all s [] = s
with_all s (t ∷ ts) = with_all (with_setting s t) ts

abbrev AllAllowed : List Setting → Type 0
AllAllowed [] = Unit {0}
AllAllowed (t ∷ ts) = Allowed t × AllAllowed ts

set-done : (s : Settings) (t : Setting) → Settable s → Allowed t → (set_typed (leveller_of s at_rest) t).state ≡ leveller_of (with_setting s t) at_rest
unfolding set_typed allowed
set-done s t k a =
    rw (is_true (acceptable (leveller_of s at_rest)) (accepts (leveller_of s at_rest) k rest-bounded), is_true (in_its_range t) (and_l (in_its_range t) (worked t) a.0), is_true (worked t) (and_r (in_its_range t) (worked t) a.0))

all_set : (s : Settings) (ts : List Setting) → Settable s → AllAllowed ts → carried (leveller_of s at_rest) (as_calls ts) ≡ leveller_of (with_all s ts) at_rest
unfolding carried answered
all_set s [] k a = refl
all_set s (t ∷ ts) k a = ap (λ (l : Leveller). carried l (as_calls ts)) (set-done s t k a.0) ∙ all_set (with_setting s t) ts (set-settable s t k a.0) a.1

-- its own five, after a making with its own rate and smoothing numbers
abbrev own : Settings → List Setting
own s = Threshold s.threshold s.factor ∷ Ratio s.ratio ∷ Attack s.attack.ms s.attack.number ∷ Release s.release.ms s.release.number ∷ Makeup s.makeup ∷ []

all_own : (s : Settings) → with_all (made_settings s.rate s.attack.number s.release.number) (own s) ≡ s
unfolding with_setting made_settings
all_own s = refl

own-f32 : (s : Settings) → SettingsF32 s → T (all_f32 (s.rate ∷ s.attack.number ∷ s.release.number ∷ [])) × InF32 (as_calls (own s))
own-f32 s f = search (and_i, and_l, and_r) depth 13

made-is : (rate rising falling : Float) → T (is_rate rate) → T (is_smoothing rising) → T (is_smoothing falling)
    → ((make rate rising falling).number ≡ 0) × ((make rate rising falling).state ≡ leveller_of (made_settings rate rising falling) at_rest)
unfolding make
made-is rate rising falling r p q = rw (is_true (is_rate rate) r, is_true (is_smoothing rising) p, is_true (is_smoothing falling) q) (refl, refl)

pub settable-reached : (s : Settings) → T (settable s) → SettingsF32 s → Reached s
settable-reached s t f =
    let a = is-settable s t f in
    let p = attack-number s a in
    let q = release-number s a in
    let m = made-is s.rate s.attack.number s.release.number a.rate.0 p.0 q.0 in
    let ready = made-settable s.rate s.attack.number s.release.number a.rate p q in
    record {
      rate = s.rate;
      rising = s.attack.number;
      falling = s.release.number;
      made = m.0;
      since = as_calls (own s);
      left = rw m.1 (ap (λ (l : Leveller). l.settings) (all_set (made_settings s.rate s.attack.number s.release.number) (own s) ready (a.threshold, (a.ratio, (a.attack, (a.release, (a.makeup, tt)))))) ∙ all_own s);
      by_f32 = own-f32 s f;
    }
