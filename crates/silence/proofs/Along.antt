-- What a gate keeps from call to call. Of a made gate, after any calls: its settings are `Settable`, its registers `Bounded`, and whatever Inv holds at rest with no history and is kept by one sample
-- holds of its registers and its history. So a promise about samples is proved for one sample, and `along` carries it through the calls. Assumes nothing.
use Rattle.std.specs.Prelude.{Option, Some, None}
use mathlib.Core.Path.{◌≡◌}
use mathlib.Core.Bool.{Bool, true, false, ◌&&◌}
use mathlib.Core.List.{List, [], ◌∷◌}
use Prim.Native.Nat.{ℕ, suc, ◌<◌, zero-le, suc-le-suc}
use native.Mathlib.Omega.{arith}
use lib.Dec.{T}
use lib.ListN.{length, get_or}
use lib.Ieee.{Float, nan, binary32, le, fits}
use lib.Ieee.Fits.{and_i, and_l, and_r}
use Rattle.rounding.specs.Casts.{absolute}
use Rattle.rounding.proofs.Smoothing.{sixty-four}
use Rattle.fold.specs.Fold.{state_after}
use Rattle.answer.specs.Figures.{f32}
use Rattle.answer.specs.Checks.{is_rate, is_smoothing, is_refused}
use Rattle.answer.specs.Names.{bytes, same}
use Rattle.answer.specs.Told.{Told, unless, where_done}
use Rattle.answer.proofs.Samples.{accepted-size}
use Rattle.answer.proofs.Blocks.{accepted}
use Rattle.answer.proofs.Refusals.{not_done}
use Rattle.answer.proofs.Told.{block-by}
use Rattle.noise_gate_sample.specs.Step.{next}
use Rattle.noise_gate_settings.specs.Ranges.{in_its_range, worked, allowed}
use Rattle.noise_gate.specs.Bounds.{acceptable}
use Rattle.noise_gate_settings.specs.Names.{named}
use Rattle.noise_gate.specs.Calls.{at_rest, made_settings, make, set_typed, set_found, set, reset, after, block}
use Rattle.silence.specs.History.{Call, Block, SetTyped, Set, Reset, answered, carried, Sample, sample, heard, all_f32, floats_of, InF32}
use Rattle.silence.specs.Demand3.{samples_after, history}
use Rattle.noise_gate_settings.specs.declared.Settings.{Settings}
use Rattle.noise_gate_sample.specs.declared.Registers.{Registers}
use Rattle.noise_gate.specs.declared.Gate.{Gate}
use Rattle.noise_gate_settings.specs.declared.Setting.{Setting}
use Rattle.silence.proofs.Accepted.{F32, Settable, Bounded, made-settable, set-settable, rest-bounded}
use Rattle.silence.proofs.OneSample.{either, next-bounded}

-- ---- the samples of a block that is done
abbrev pub WithinRange : List Float → Type 0
WithinRange [] = Unit {0}
WithinRange (x ∷ xs) = T (le (absolute x) sixty-four) × WithinRange xs

pub within : (xs : List Float) → ((i : ℕ) → i < length xs → is_refused (get_or xs i nan) ≡ false) → WithinRange xs
unfolding f32
within [] h = tt
within (x ∷ xs) h = (accepted-size x (h 0 (suc-le-suc zero-le)), within xs (λ i l. h (suc i) (suc-le-suc l)))

-- ---- a chain of tests, one after the other
pub by : {A : Type 0} (P : A → Type 0) (test : Bool) {rest otherwise : A} → P otherwise → (T test → P rest) → P (unless test otherwise rest)
by P true p q = q tt
by P false p q = p

-- a name's setting is made of the numbers beside it
abbrev NamedF32 : Option Setting → Type 0
NamedF32 (Some t) = T (all_f32 (floats_of (SetTyped t)))
NamedF32 None = Unit {0}

named-f32 : (name : List ℕ) (v w : Float) → T (all_f32 (v ∷ w ∷ [])) → NamedF32 (named name v w)
unfolding named
named-f32 name v w f =
    let first : T (all_f32 (v ∷ [])) = and_i (fits binary32 v) true (and_l (fits binary32 v) (all_f32 (w ∷ [])) f) tt in
    either NamedF32 (same name (bytes "threshold")) f
    (either NamedF32 (same name (bytes "ratio")) first
    (either NamedF32 (same name (bytes "attack")) f
    (either NamedF32 (same name (bytes "release")) f
    (either NamedF32 (same name (bytes "hold")) first tt))))

-- ---- what is kept
pub record Sound (Inv : Registers → List Sample → Type 0) (s : Settings) (m : Registers) (h : List Sample) : Type 0 where
  pub settable : Settable s
  pub bounded : Bounded m
  pub inv : Inv m h

-- Inv is kept by one sample
abbrev pub Kept : (Registers → List Sample → Type 0) → Type 0
Kept Inv =
    (s : Settings) (m : Registers) (h : List Sample) (x : Float) → Settable s → Bounded m → F32 x → T (le (absolute x) sixty-four)
    → Inv m h → Inv (next s m x) (sample s m x ∷ h)

module _ (Inv : Registers → List Sample → Type 0) (first : Inv at_rest []) (kept : Kept Inv) where
  at_first : (s : Settings) → Settable s → Sound Inv s at_rest []
  at_first s a = record { settable = a; bounded = rest-bounded; inv = first }

  whole-block : (s : Settings) (m : Registers) (xs : List Float) (h : List Sample) → Sound Inv s m h → T (all_f32 xs) → WithinRange xs → Sound Inv s (after s m xs) (heard s m xs h)
  unfolding state_after heard
  whole-block s m [] h k f w = k
  whole-block s m (x ∷ xs) h k f w =
      let fx = and_l (fits binary32 x) (all_f32 xs) f in
      let one_more : Sound Inv s (next s m x) (sample s m x ∷ h) =
      record { settable = k.settable; bounded = next-bounded s m x k.settable k.bounded fx w.0; inv = kept s m h x k.settable k.bounded fx w.0 k.inv } in
      whole-block s (next s m x) xs (sample s m x ∷ h) one_more (and_r (fits binary32 x) (all_f32 xs) f) w.1

  module _ (g : Gate) (h : List Sample) (k : Sound Inv g.settings g.registers h) where
    -- the gate that a call leaves, with the history `new` where it was done; and with the same one
    abbrev Leaves : List Sample → Told Gate → Type 0
    Leaves new t = Sound Inv t.state.settings t.state.registers (where_done t new h)

    abbrev Same : Told Gate → Type 0
    Same t = Sound Inv t.state.settings t.state.registers h

    block-leaves : (xs out : List Float) → T (all_f32 xs) → Leaves (heard g.settings g.registers xs h) (block g xs out).0
    unfolding block
    block-leaves xs out f =
        block-by g xs out (λ t. Leaves (heard g.settings g.registers xs h) t.0) (acceptable g)
        (λ r. rw (not_done r) k)
        (λ _ e. whole-block g.settings g.registers xs h k f (within xs (λ i. (accepted xs (length out) e).none-refused i nan)))

    set-leaves : (t : Setting) → T (all_f32 (floats_of (SetTyped t))) → Same (set_typed g t)
    unfolding set_typed allowed
    set-leaves t f =
        by Same (acceptable g) k λ _.
        by Same (in_its_range t) k λ r.
        by Same (worked t) k λ w.
        record { settable = set-settable g.settings t k.settable (and_i (in_its_range t) (worked t) r w, f); bounded = k.bounded; inv = k.inv }

    found-leaves : (n : Option Setting) → NamedF32 n → Same (set_found g n)
    unfolding set_found
    found-leaves (Some t) f = set-leaves t f
    found-leaves None f = k

    call-leaves : (c : Call) → T (all_f32 (floats_of c)) → Sound Inv (answered g c).state.settings (answered g c).state.registers (samples_after g c h)
    unfolding answered samples_after set reset
    call-leaves (Block xs out) f = block-leaves xs out f
    call-leaves (SetTyped t) f = set-leaves t f
    call-leaves (Set name v w) f = by Same (acceptable g) k λ _. found-leaves (named name v w) (named-f32 name v w f)
    call-leaves Reset f = by (Leaves []) (acceptable g) k λ _. at_first g.settings k.settable

  -- ---- any calls
  pub calls-leave : (g : Gate) (cs : List Call) (h : List Sample) → Sound Inv g.settings g.registers h → InF32 cs → Sound Inv (carried g cs).settings (carried g cs).registers (history g cs h)
  unfolding carried history
  calls-leave g [] h k f = k
  calls-leave g (c ∷ cs) h k f = calls-leave (answered g c).state cs (samples_after g c h) (call-leaves g h k c f.0) f.1

  -- ---- from making on
  abbrev From : Told Gate → Type 0
  From t = t.number ≡ 0 → Sound Inv t.state.settings t.state.registers []

  made : (rate rising falling : Float) → T (all_f32 (rate ∷ rising ∷ falling ∷ [])) → From (make rate rising falling)
  unfolding make
  made rate rising falling f =
      by From (is_rate rate) (λ e. absurd (omega arith)) λ r.
      by From (is_smoothing rising && is_smoothing falling) (λ e. absurd (omega arith)) λ w e.
      at_first (made_settings rate rising falling)
      (made-settable rate rising falling (r, search and_l) (search and_l, search (and_l, and_r)) (search and_r, search (and_l, and_r)))

  pub along : (rate rising falling : Float) → T (all_f32 (rate ∷ rising ∷ falling ∷ [])) → (make rate rising falling).number ≡ 0 → (cs : List Call) → InF32 cs
      → Sound Inv (carried (make rate rising falling).state cs).settings (carried (make rate rising falling).state cs).registers (history (make rate rising falling).state cs [])
  along rate rising falling f d cs fs = calls-leave (make rate rising falling).state cs [] (made rate rising falling f d) fs
