-- One sample of an accepted gate: where its state goes, how large its output is, and that its registers stay in bounds.
-- Assumes nothing.
use mathlib.Core.Bool.{Bool, true, false, cond}
use Prim.Native.Nat.{◌≤◌}
use native.Mathlib.Omega.{arith}
use lib.Dec.{T}
use lib.Ieee.{Float, binary32, lt, le, mul, sub, div}
use lib.Ieee.Fits.{and_i, and_l, and_r}
use lib.Ieee.Scale.{finite}
use Rattle.rounding.specs.Casts.{absolute}
use Rattle.rounding.proofs.Units.{U}
use Rattle.rounding.proofs.Smoothing as Smooth
use Rattle.rounding.proofs.Smoothing.{sixty-four, tiny, In, one_in, again, one_known, closing-to, closing-to-strictly, closing-in, rest-of-nought, opening-within, opening-never-falls, gain-within, share-of}
use Rattle.rounding.proofs.Scaled.{size-finite}
use Rattle.answer.specs.Figures.{f32, nought, one}
use Rattle.answer.specs.Checks.{in_range}
use Rattle.common.specs.Follower.{toward, followed}
use Rattle.common.proofs.Level.{level-within, level-fits}
use Rattle.noise_gate_sample.specs.Figures.{wide_open}
use Rattle.noise_gate.specs.Figures.{longest_count}
use Rattle.noise_gate_sample.specs.Step.{gain_at, level, loud, counter, aim, target, state, gain, output, next}
use Rattle.noise_gate_settings.specs.declared.Settings.{Settings}
use Rattle.noise_gate_sample.specs.declared.Registers.{Registers}
use Rattle.silence.proofs.Accepted.{F32, Settable, Bounded, Smoothing, attack-number, release-number, ratio-f32, ratio-above, ratio-below, hold-most}

-- both are, so the chosen one is
pub either {ℓ} : {A : Type 0} (P : A → Type ℓ) (b : Bool) {x y : A} → P x → P y → P (cond b x y)
either P true p q = p
either P false p q = q

-- ---- the state, aiming by t, from v to w
pub record Moves (t : Bool) (v w : Float) : Type 0 where
  pub falls : ¬ T t → T (lt (tiny binary32) v) → T (lt w v)
  pub rests : ¬ T t → T (le w v)
  pub opens : T t → T (le v w)
  pub inside : In binary32 one w

opened : (c v : Float) → Smoothing c → In binary32 one v → Moves true v (toward c v one)
unfolding toward
opened c v s i = record {
  falls = λ n. absurd (n tt);
  rests = λ n. absurd (n tt);
  opens = λ t. opening-never-falls binary32 c v s.inside i;
  inside = again binary32 one c v (mul binary32 (sub binary32 one c) one) (opening-within binary32 c v s.inside i);
}

closed : (c v : Float) → Smoothing c → In binary32 one v → Moves false v (toward c v nought)
unfolding toward
closed c v s i =
    let z = mul binary32 (sub binary32 one c) nought in
    let a = rest-of-nought binary32 c s.inside in
    record {
      falls = λ n. closing-to-strictly binary32 c v one z (U binary32) s.inside i (one_known binary32) a s.less;
      rests = λ n. (closing-to binary32 c v one z (U binary32) s.inside i (one_known binary32) a).below;
      opens = λ t. absurd t;
      inside = closing-in binary32 c v one z (U binary32) s.inside i (one_known binary32) a;
    }

moves : (t : Bool) (o c v : Float) → Smoothing o → Smoothing c → In binary32 one v → Moves t v (toward (cond (lt v (cond t one nought)) o c) v (cond t one nought))
moves true o c v so sc i = opened (cond (lt v one) o c) v (either Smoothing (lt v one) so sc) i
moves false o c v so sc i = closed (cond (lt v nought) o c) v (either Smoothing (lt v nought) so sc) i

one-hundred-finite : T (finite (f32 100 1))
unfolding f32
one-hundred-finite = tt

module _ (s : Settings) (m : Registers) (x : Float) (a : Settable s) (b : Bounded m) (fx : F32 x) (lx : T (le (absolute x) sixty-four)) where
  pub state-moves : Moves (aim s m x) m.state (state s m x)
  unfolding state target
  state-moves = moves (aim s m x) s.attack.number s.release.number m.state (attack-number s a) (release-number s a) b.state

  level_in : In binary32 sixty-four (level s m x)
  unfolding level f32
  level_in =
      let v = followed s.rising s.falling m.level x in
      let r : T (in_range nought sixty-four v) =
      level-within s.rising s.falling m.level x a.rising.1 a.falling.1 b.level.fit fx a.rising.0 a.falling.0
      (and_i (le nought m.level) (le m.level sixty-four) b.level.above b.level.below) lx in
      record { fit = level-fits s.rising s.falling m.level x; above = and_l (le nought v) (le v sixty-four) r; below = and_r (le nought v) (le v sixty-four) r }

  pub gain-in : In binary32 one (gain s m x)
  unfolding gain gain_at
  gain-in =
      let g = div binary32 one s.ratio in
      either (In binary32 one) (lt (state s m x) wide_open)
      (again binary32 one (sub binary32 one g) (state s m x) g
      (gain-within binary32 g (state s m x) (share-of binary32 s.ratio (f32 100 1) (ratio-f32 s a) (ratio-above s a) (ratio-below s a) one-hundred-finite) state-moves.inside))
      (one_in binary32)

  pub quieter : T (le (absolute (output s m x)) (absolute x))
  unfolding output
  quieter = Smooth.output binary32 x (gain s m x) fx (size-finite x lx) gain-in

  counter-most : counter s m x ≤ longest_count
  unfolding counter
  counter-most = either (λ n. n ≤ longest_count) (loud s m x) (hold-most s a) (omega (arith, b.counter))

  pub next-bounded : Bounded (next s m x)
  unfolding next
  next-bounded = record { level = level_in; state = state-moves.inside; counter = counter-most }
