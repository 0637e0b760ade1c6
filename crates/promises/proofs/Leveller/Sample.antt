-- One sample of an accepted leveller: where its level goes, how large over, the gain and the output are, and that nothing overflows.
-- Assumes nothing.
use mathlib.Core.Path.{◌≡◌, refl}
use mathlib.Core.Bool.{true, false, ◌||◌}
use Prim.Native.Nat.{ℕ, ◌*◌, ◌<◌}
use native.Mathlib.Nat.{mul-pos}
use native.Mathlib.Omega.{arith}
use lib.Dec.{T, lt→ltb, ltb→lt}
use lib.Ieee.{Float, nan, inf, fin, binary32, up, down, lt, le, eq, fits, div, mul}
use lib.Ieee.Fits.{and_i, and_l, and_r, up_pos, div-fits}
use lib.Ieee.Positive.{positive, between}
use lib.Ieee.Scale.{finite}
use Rattle.rounding.specs.Casts.{absolute}
use Rattle.rounding.proofs.Smoothing.{sixty-four, In, Within, one_in, absolute-in, lt→le, plus-of, plus-finite}
use Rattle.rounding.proofs.Gains.{FromOne, from_one, Gain}
use Rattle.root.specs.Root.{root}
use Rattle.root.proofs.Sizes.{root_size}
use Rattle.root.specs.Nearest.{NearestTo}
use Rattle.root.proofs.Laws.{root-fits, root-from-one, root-positive}
use Rattle.root.proofs.Nearest.{nearest}
use Rattle.root.proofs.Gains.{roots-product, gain-two, gain-four}
use Rattle.common.proofs.Level.{level-within, level-fits}
use Rattle.answer.specs.Figures.{f32, nought, one}
use Rattle.answer.specs.Checks.{in_range}
use Rattle.leveller_settings.specs.declared.Settings.{Settings}
use Rattle.leveller_sample.specs.Figures.{least, two}
use Rattle.leveller_sample.specs.Step.{larger, level_input, level, over, gain_at, gain, output, next}
use Rattle.leveller_sample.specs.declared.Registers.{Registers}
use Rattle.silence.proofs.Accepted.{F32}
use Rattle.silence.proofs.Along.{by}
use Rattle.silence.proofs.OneSample.{either}
use Rattle.rounding.proofs.Scaled.{most-over, quotient, output-most, output-loudest}
use Rattle.promises.proofs.Leveller.Settable.{Settable, attack-number, release-number, factor-f32, factor-above, factor-below, makeup-in, bounded-is}
use Rattle.promises.specs.Leveller.{Sample}

-- ---- what the follower is fed: an f32 of at most 64
abbrev Fed : Float → Type 0
Fed r = F32 r × T (le (absolute r) sixty-four)

size-of-size : (x : Float) → absolute (absolute x) ≡ absolute x
unfolding absolute
size-of-size nan = refl
size-of-size (inf s) = refl
size-of-size (fin s m e) = refl

size-fed : (x : Float) → F32 x → T (le (absolute x) sixty-four) → Fed (absolute x)
size-fed x f l = ((absolute-in binary32 x sixty-four f l).fit, rw (size-of-size x) l)

least-fed : Fed least
unfolding f32 fits absolute le
least-fed = (tt, tt)

-- ---- above zero
one-gain : Gain binary32 one
one-gain = record { within = one_in binary32; some = tt }

positive-above-zero : (g : Float) → T (positive g) → T (lt nought g)
unfolding lt
positive-above-zero nan p = absurd p
positive-above-zero (inf s) p = absurd p
positive-above-zero (fin true n e) p = absurd p
positive-above-zero (fin false n e) p = lt→ltb (0 * down e) (n * up e * 1) (let k : 0 < n * up e = mul-pos (ltb→lt 0 n p) (up_pos e) in omega arith)

module _ (s : Settings) (m : Registers) (x : Float) (a : Settable s) (b : In binary32 sixty-four m.level) (fx : F32 x) (lx : T (le (absolute x) sixty-four)) where
  pub level_in : In binary32 sixty-four (level s m x)
  unfolding level level_input larger f32
  level_in =
      let r = level_input x in
      let fed : Fed r = either Fed (lt least (absolute x)) (size-fed x fx lx) least-fed in
      let c = attack-number s a in
      let d = release-number s a in
      let w : T (in_range nought sixty-four (level s m x)) =
      level-within s.attack.number s.release.number m.level r c.1 d.1 b.fit fed.0 c.0 d.0
      (and_i (le nought m.level) (le m.level sixty-four) b.above b.below) fed.1 in
      record { fit = level-fits s.attack.number s.release.number m.level r; above = and_l (le nought (level s m x)) (le (level s m x) sixty-four) w; below = and_r (le nought (level s m x)) (le (level s m x) sixty-four) w }

  pub next-in : In binary32 sixty-four (next s m x).level
  unfolding next
  next-in = level_in

  -- ---- level / threshold, and over
  quotient-in : Within most-over (div binary32 (level s m x) s.factor.0)
  quotient-in = quotient binary32 (level s m x) s.factor.0 level_in (factor-f32 s a) (factor-above s a) (factor-below s a)

  abbrev FromOneUp : Float → Type 0
  FromOneUp o = F32 o × T (in_range one most-over o)

  over-in : FromOneUp (over s m x)
  unfolding over larger
  over-in =
      let d = div binary32 (level s m x) s.factor.0 in
      by FromOneUp (lt one d) {rest = d} {otherwise = one} ((one_in binary32).fit, unfold le in tt)
      λ t. (div-fits binary32 (level s m x) s.factor.0, and_i (le one d) (le d most-over) (lt→le one d t) quotient-in.below)

  least-over : T (le one (over s m x))
  least-over = and_l (le one (over s m x)) (le (over s m x) most-over) over-in.1

  over-positive : T (positive (over s m x))
  over-positive = between one (over s m x) most-over tt tt least-over (and_r (le one (over s m x)) (le (over s m x) most-over) over-in.1)

  -- ---- the roots and their product
  s-is : (c : ℕ) × FromOne binary32 (root binary32 (over s m x)) c
  s-is = let o = from_one binary32 (over s m x) over-in.0 over-positive least-over in (root_size binary32 o.0, root-from-one binary32 (over s m x) o.0 o.1)

  roots-nearest : NearestTo binary32 (over s m x) (root binary32 (over s m x)) × NearestTo binary32 (root binary32 (over s m x)) (root binary32 (root binary32 (over s m x)))
  roots-nearest =
      let o = over s m x in
      let n = nearest binary32 in
      (n.nearest o over-in.0 over-positive, n.nearest (root binary32 o) (root-fits binary32 o over-in.0) (root-positive binary32 o over-in.0 over-positive))

  finite-quotient : T (finite (div binary32 (level s m x) s.factor.0))
  finite-quotient = let d = div binary32 (level s m x) s.factor.0 in plus-finite d (plus-of d most-over quotient-in.above quotient-in.below tt)

  finite-s : T (finite (root binary32 (over s m x)))
  finite-s = plus-finite (root binary32 (over s m x)) s-is.1.above.at.0

  finite-q : T (finite (root binary32 (root binary32 (over s m x))))
  finite-q = plus-finite (root binary32 (root binary32 (over s m x))) (root-from-one binary32 (root binary32 (over s m x)) s-is.0 s-is.1).above.at.0

  finite-product : T (finite (mul binary32 (root binary32 (over s m x)) (root binary32 (root binary32 (over s m x)))))
  finite-product =
      let p = roots-product binary32 (over s m x) over-in.0 over-positive least-over in
      plus-finite (mul binary32 (root binary32 (over s m x)) (root binary32 (root binary32 (over s m x)))) p.1.above.at.0

  -- ---- the gain
  gain-is : Gain binary32 (gain s m x)
  unfolding gain gain_at
  gain-is =
      let o = over s m x in
      either (Gain binary32) (eq s.ratio one || eq o one) one-gain
      (either (Gain binary32) (eq s.ratio two) (gain-two binary32 o over-in.0 over-positive least-over) (gain-four binary32 o over-in.0 over-positive least-over))

  -- ---- all of it
  pub sample-holds : Sample s m x
  unfolding output
  sample-holds =
      let g = gain s m x in
      let w = gain-is.within in
      record {
        level = bounded-is (next s m x) next-in;
        over = unfold f32 in over-in.1;
        roots = roots-nearest;
        no_overflow = (finite-quotient, (finite-s, (finite-q, finite-product)));
        gain = (positive-above-zero g gain-is.some, w.below);
        output = output-most binary32 x g s.makeup.0 fx lx w (makeup-in s a);
        loudest = unfold f32 in output-loudest binary32 x g s.makeup.0 fx lx w (makeup-in s a);
      }
