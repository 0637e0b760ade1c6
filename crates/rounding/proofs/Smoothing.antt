-- A value moved towards another by a smoothing number, rounding included, for either format: closing falls, opening never falls and stays at most 1, the gain is at most 1, the follower stays within 64.
-- Each is a fact of `Towards` on the sizes. Assumes nothing.
use mathlib.Core.Path.{◌≡◌, refl, sym, ap, ◌∙◌, subst}
use mathlib.Core.Logic.{inl, inr}
use Prim.Native.Nat.{ℕ, zero, suc, ◌+◌, ◌-◌, ◌*◌, ◌^◌, ◌≤◌, ◌<◌, zero-le}
use native.Mathlib.Nat.{le_refl, le_trans, le_of_eq, le_antisymm, eq-or-lt_of_le, lt_of_lt_of_le, lt_of_le_of_lt, sub-le, zero-mul, one-mul, mul-one, mul_comm, mul-le-mul_right, mul-le-mul_left}
use native.Mathlib.Omega.{arith}
use mathlib.Core.Bool.{true, false}
use lib.IntN.{ℤ, pos, negsuc}
use lib.Dec.{T, eqb, eqb→eq, lit<}
use lib.Pow.{pow_pos}
use lib.Ieee.{eq, Float, nan, inf, fin, Format, binary32, binary64, prec, low, emax, up, down, size, mul, sub, div, le, lt, fits}
use lib.Ieee.Fits.{div-fits, eq→eqb, and_l, and_r, down_pos, up_pos}
use lib.Ieee.Scale.{overflow, finite}
use Rattle.rounding.proofs.Snap.{snap, Rep, snap-rep, snap-below, rep-pow, rep-scale}
use Rattle.rounding.proofs.Towards.{D, D-rep, closes, closes-strictly, opens, opens-within, mixes-within, stays_open}
use Rattle.rounding.proofs.Units.{gap, U, U-is, prec-pos, Size, held}
use Rattle.rounding.specs.Fma.{fma}
use Rattle.rounding.specs.Casts.{absolute}
use Rattle.rounding.proofs.Sizes.{plus, le-i, or_l, no_size, At, le-of-sizes, lt-of-sizes, sizes-of-le, sizes-of-lt, mul-size, mul_at, fma-at, sub_at, div-at, fma-fits, at-unique}

-- ---- closed facts of the formats
top : (f : Format) → snap (prec f) (2 ^ 0 * (2 ^ (prec f + gap f) * 2 + 2 ^ gap f)) 2 ≡ 2 ^ 0 * 2 ^ (prec f + gap f)
unfolding snap size
top binary32 = refl
top binary64 = refl

top64 : (f : Format) → snap (prec f) (2 ^ 6 * (2 ^ (prec f + gap f) * 2 + 2 ^ gap f)) 2 ≡ 2 ^ 6 * 2 ^ (prec f + gap f)
unfolding snap size
top64 binary32 = refl
top64 binary64 = refl

bottom : (f : Format) → snap (prec f) (2 ^ (prec f + gap f) * 2 - 2 ^ gap f) 2 ≡ 2 ^ (prec f + gap f)
unfolding snap size
bottom binary32 = refl
bottom binary64 = refl

room : (f : Format) → 2 ^ 6 * 2 ^ (prec f + gap f) < overflow f
room binary32 = lit< tt
room binary64 = lit< tt

-- ---- some values
abbrev pub nought : Float
nought = fin false 0 (pos 0)

abbrev pub one : Float
one = fin false 1 (pos 0)

abbrev pub sixty-four : Float
sixty-four = fin false 1 (pos 6)

-- the smallest normal value: 2 ^ -126 in binary32
abbrev pub tiny : Format → Float
tiny f = fin false 1 (negsuc (gap f))

nought-at : (f : Format) → At f nought 0
nought-at f = (tt, zero-mul (U f) ∙ refl)

one_at : (f : Format) → At f one (U f)
one_at f = (tt, one-mul (U f) ∙ sym (mul-one (U f)))

pub sixty-four-at : (f : Format) → At f sixty-four (2 ^ 6 * U f)
sixty-four-at f = (tt, sym (mul-one (2 ^ 6 * U f)))

tiny-at : (f : Format) → At f (tiny f) (2 ^ (prec f - 1))
tiny-at binary32 = (tt, refl)
tiny-at binary64 = (tt, refl)

-- ---- what fits, by its size
pub record Known (f : Format) (x : Float) : Type 0 where
  pub at : ℕ
  pub rep : Rep (prec f) at
  pub under : at < overflow f
  pub is : Size f x at

pub known : (f : Format) (x : Float) → T (fits f x) → T (finite x) → Known f x
known f nan h g = absurd g
known f (inf s) h g = absurd g
known f (fin s m e) h g =
    let k = held f s m e h in
    record { at = k.at; rep = k.rep; under = k.under; is = ap (λ (z : ℕ). m * up e * z) (sym (U-is f)) ∙ k.is }

-- 0 ≤ x ≤ y, with y finite: x is finite and not below zero
pub plus-of : (x y : Float) → T (le nought x) → T (le x y) → T (finite y) → T (plus x)
unfolding le
plus-of nan y h k g = absurd h
plus-of (inf true) y h k g = absurd h
plus-of (inf false) nan h k g = absurd k
plus-of (inf false) (inf t) h k g = absurd g
plus-of (inf false) (fin t n d) h k g = absurd k
plus-of (fin false m e) y h k g = tt
plus-of (fin true m e) y h k g = eq→eqb (no_size m (up e) 1 0 1 (up_pos e) (pow_pos 0) (sym (eqb→eq (0 * down e) (m * up e * 1) (and_l (eqb (0 * down e) (m * up e * 1)) (eqb (0 * down e) 0) h)) ∙ zero-mul (down e)) refl)

pub plus-finite : (x : Float) → T (plus x) → T (finite x)
plus-finite nan p = absurd p
plus-finite (inf s) p = absurd p
plus-finite (fin s m e) p = tt

pub lt→le : (x y : Float) → T (lt x y) → T (le x y)
unfolding le
lt→le x y h = or_l (lt x y) (eq x y) h

-- ---- x fits and lies in [0, y]
pub record In (f : Format) (y x : Float) : Type 0 where
  pub fit : T (fits f x)
  pub above : T (le nought x)
  pub below : T (le x y)

-- its size, and that it has at most prec digits
pub record Sized (f : Format) (x : Float) (b : ℕ) : Type 0 where
  pub at : ℕ
  pub rep : Rep (prec f) at
  pub fine : at < overflow f
  pub most : at ≤ b
  pub is : At f x at

sized : (f : Format) (x y : Float) (b : ℕ) → In f y x → At f y b → Sized f x b
sized f x y b i a =
    let p : T (plus x) = plus-of x y i.above i.below (plus-finite y a.0) in
    let k = known f x i.fit (plus-finite x p) in
    record { at = k.at; rep = k.rep; fine = k.under; most = sizes-of-le f x y k.at b p a.0 k.is a.1 i.below; is = (p, k.is) }

-- and of a result: it is in [0, y]
pub record Within (y x : Float) : Type 0 where
  pub above : T (le nought x)
  pub below : T (le x y)

pub within : (f : Format) (x y : Float) (n b : ℕ) → At f x n → At f y b → n ≤ b → Within y x
within f x y n b h k g = record { above = le-of-sizes f nought x 0 n tt h.0 (nought-at f).1 h.1 zero-le; below = le-of-sizes f x y n b h.0 k.0 h.1 k.1 g }

-- ---- closing, s' = c * s + z, for a z that is zero, of either sign
module _ (f : Format) (c s y z : Float) (b : ℕ) (ic : In f one c) (is : In f y s) (ay : At f y b) (az : At f z 0) where
  closing_at : (cs : Sized f c (U f)) (ss : Sized f s b) → At f (fma f c s z) (snap (prec f) (cs.at * ss.at) (U f))
  closing_at cs ss =
      let e : cs.at * ss.at + 0 * U f ≡ cs.at * ss.at = omega arith in
      let g : snap (prec f) (cs.at * ss.at) (U f) < overflow f = lt_of_le_of_lt (closes (prec f) (gap f) (prec-pos f) cs.at ss.at ss.rep cs.most) ss.fine in
      subst (λ (w : ℕ). At f (fma f c s z) (snap (prec f) w (U f))) e (fma-at f c s z cs.at ss.at 0 cs.is ss.is az (rw e g))

  pub closing-to : Within s (fma f c s z)
  closing-to =
      let cs = sized f c one (U f) ic (one_at f) in
      let ss = sized f s y b is ay in
      within f (fma f c s z) s (snap (prec f) (cs.at * ss.at) (U f)) ss.at (closing_at cs ss) ss.is (closes (prec f) (gap f) (prec-pos f) cs.at ss.at ss.rep cs.most)

  -- and so it stays where s was
  pub closing-in : In f y (fma f c s z)
  closing-in =
      let cs = sized f c one (U f) ic (one_at f) in
      let ss = sized f s y b is ay in
      let w = within f (fma f c s z) y (snap (prec f) (cs.at * ss.at) (U f)) b (closing_at cs ss) ay (le_trans (closes (prec f) (gap f) (prec-pos f) cs.at ss.at ss.rep cs.most) ss.most) in
      record { fit = fma-fits f c s z; above = w.above; below = w.below }

  pub closing-to-strictly : T (lt c one) → T (lt (tiny f) s) → T (lt (fma f c s z) s)
  closing-to-strictly l g =
      let cs = sized f c one (U f) ic (one_at f) in
      let ss = sized f s y b is ay in
      let r = closing_at cs ss in
      lt-of-sizes f (fma f c s z) s (snap (prec f) (cs.at * ss.at) (U f)) ss.at r.0 ss.is.0 r.1 ss.is.1
      (closes-strictly (prec f) (gap f) (prec-pos f) cs.at ss.at cs.rep (sizes-of-lt f c one cs.at (U f) cs.is.0 tt cs.is.1 (one_at f).1 l) (sizes-of-lt f (tiny f) s (2 ^ (prec f - 1)) ss.at tt ss.is.0 (tiny-at f).1 ss.is.1 g))

-- ---- 1 - c
pub unit-fine : (f : Format) (n : ℕ) → n ≤ 2 ^ 6 * U f → n < overflow f
unit-fine f n h = lt_of_le_of_lt h (room f)

unit-le : (f : Format) (n : ℕ) → n ≤ U f → n ≤ 2 ^ 6 * U f
unit-le f n h = omega arith

abbrev rest : Format → ℕ → ℕ
rest f n = D (prec f) (gap f) (prec-pos f) n

D-le : (f : Format) (n : ℕ) → rest f n ≤ U f
unfolding D
D-le f n = snap-below (prec f) (U f) (U f - n) 1 (prec-pos f) (rep-pow (prec f) (prec f + gap f) (prec-pos f)) (pow_pos 0) (le_trans (sub-le (U f) n) (le_of_eq (sym (mul-one (U f)))))

rest_at : (f : Format) (c : Float) (n : ℕ) → At f c n → n ≤ U f → At f (sub f one c) (rest f n)
unfolding D
rest_at f c n h l = sub_at f 1 (pos 0) c (U f) n (one_at f).1 h l (unit-fine f (snap (prec f) (U f - n) 1) (unit-le f (snap (prec f) (U f - n) 1) (unfold D in D-le f n)))

-- d * 1 is d
times-one : (f : Format) (d : Float) (n : ℕ) → At f d n → Rep (prec f) n → n ≤ U f → At f (mul f d one) n
times-one f d n h r l =
    let e : snap (prec f) (n * U f) (U f) ≡ n = snap-rep (prec f) n (n * U f) (U f) r (pow_pos (prec f + gap f)) refl in
    rw e at (mul_at f d one n (U f) h (one_at f) (rw e (unit-fine f n (unit-le f n l))))

-- ---- opening, s' = c * s + (1 - c) * 1
opens-le : (f : Format) (c s : ℕ) → c ≤ U f → s ≤ U f → snap (prec f) (c * s + rest f c * U f) (U f) ≤ U f
opens-le f c s h k = le_trans (opens-within (prec f) (gap f) (prec-pos f) 0 (top f) c s (rest f c) h (omega arith) (omega arith)) (le_of_eq (one-mul (U f)))

module _ (f : Format) (c s : Float) (ic : In f one c) (is : In f one s) where
  opening-at : (cs : Sized f c (U f)) (ss : Sized f s (U f)) → At f (fma f c s (mul f (sub f one c) one)) (snap (prec f) (cs.at * ss.at + rest f cs.at * U f) (U f))
  opening-at cs ss =
      let d = rest f cs.at in
      let n = snap (prec f) (cs.at * ss.at + d * U f) (U f) in
      fma-at f c s (mul f (sub f one c) one) cs.at ss.at d cs.is ss.is
      (times-one f (sub f one c) d (rest_at f c cs.at cs.is cs.most) (D-rep (prec f) (gap f) (prec-pos f) cs.at) (D-le f cs.at))
      (unit-fine f n (unit-le f n (opens-le f cs.at ss.at cs.most ss.most)))

  pub opening-within : Within one (fma f c s (mul f (sub f one c) one))
  opening-within =
      let cs = sized f c one (U f) ic (one_at f) in
      let ss = sized f s one (U f) is (one_at f) in
      within f (fma f c s (mul f (sub f one c) one)) one (snap (prec f) (cs.at * ss.at + rest f cs.at * U f) (U f)) (U f) (opening-at cs ss) (one_at f) (opens-le f cs.at ss.at cs.most ss.most)

-- and at 1 it stays, so it never falls
opens-all : (f : Format) (c s : ℕ) → c ≤ U f → s ≤ U f → Rep (prec f) s → s ≤ snap (prec f) (c * s + rest f c * U f) (U f)
opens-all f c s h k r = elim (eq-or-lt_of_le k) [
  | inl e ↦ subst (λ (z : ℕ). z ≤ snap (prec f) (c * z + rest f c * U f) (U f)) (sym e) (stays_open (prec f) (gap f) (prec-pos f) (bottom f) c h)
  | inr l ↦ opens (prec f) (gap f) (prec-pos f) c s h r l
]

pub opening-never-falls : (f : Format) (c s : Float) → In f one c → In f one s → T (le s (fma f c s (mul f (sub f one c) one)))
opening-never-falls f c s ic is =
    let cs = sized f c one (U f) ic (one_at f) in
    let ss = sized f s one (U f) is (one_at f) in
    let r = opening-at f c s ic is cs ss in
    le-of-sizes f s (fma f c s (mul f (sub f one c) one)) ss.at (snap (prec f) (cs.at * ss.at + rest f cs.at * U f) (U f)) ss.is.0 r.0 ss.is.1 r.1
    (opens-all f cs.at ss.at cs.most ss.most ss.rep)

-- (1 - c) * 0 is zero
pub rest-of-nought : (f : Format) (c : Float) → In f one c → At f (mul f (sub f one c) nought) 0
rest-of-nought f c ic =
    let cs = sized f c one (U f) ic (one_at f) in
    let e : snap (prec f) (rest f cs.at * 0) (U f) ≡ 0 = snap-rep (prec f) 0 (rest f cs.at * 0) (U f) (record { digits = 0; shift = 0; few = pow_pos (prec f); is = refl }) (pow_pos (prec f + gap f)) (omega arith) in
    rw e at (mul_at f (sub f one c) nought (rest f cs.at) 0 (rest_at f c cs.at cs.is cs.most) (nought-at f) (rw e (pow_pos (low f + suc (emax f)))))

one-fits : (f : Format) → T (fits f one)
unfolding fits
one-fits binary32 = tt
one-fits binary64 = tt

pub one_in : (f : Format) → In f one one
unfolding le
one_in f = record { fit = one-fits f; above = tt; below = tt }

abbrev one-sized : (f : Format) → Sized f one (U f)
one-sized f = record { at = U f; rep = rep-pow (prec f) (prec f + gap f) (prec-pos f); fine = unit-fine f (U f) (unit-le f (U f) (le_refl (U f))); most = le_refl (U f); is = one_at f }

pub stays_at_one : (f : Format) (c : Float) → In f one c → fma f c one (mul f (sub f one c) one) ≡ one
stays_at_one f c ic =
    let cs = sized f c one (U f) ic (one_at f) in
    let n = snap (prec f) (cs.at * U f + rest f cs.at * U f) (U f) in
    let e : n ≡ U f = le_antisymm (opens-le f cs.at (U f) cs.most (le_refl (U f))) (stays_open (prec f) (gap f) (prec-pos f) (bottom f) cs.at cs.most) in
    at-unique f (fma f c one (mul f (sub f one c) one)) one (U f) (fma-fits f c one (mul f (sub f one c) one)) (one-fits f) (rw e at (opening-at f c one ic (one_in f) cs (one-sized f))) (one_at f) (pow_pos (prec f + gap f))

-- ---- g = 1 / ratio, and the gain (1 - g) * s + g
mixes-le : (f : Format) (c s : ℕ) → c ≤ U f → s ≤ U f → snap (prec f) (rest f c * s + c * U f) (U f) ≤ U f
mixes-le f c s h k = le_trans (le_trans (le_of_eq (ap (λ (z : ℕ). snap (prec f) (rest f c * s + z * U f) (U f)) (sym (one-mul c)))) (mixes-within (prec f) (gap f) (prec-pos f) 0 (top f) c s h (omega arith))) (le_of_eq (one-mul (U f)))

gain-at : (f : Format) (g s : Float) (a b : ℕ) → At f g a → At f s b → a ≤ U f → b ≤ U f → At f (fma f (sub f one g) s g) (snap (prec f) (rest f a * b + a * U f) (U f))
gain-at f g s a b h k l m =
    let n = snap (prec f) (rest f a * b + a * U f) (U f) in
    fma-at f (sub f one g) s g (rest f a) b a (rest_at f g a h l) k h (unit-fine f n (unit-le f n (mixes-le f a b l m)))

-- any g in [0, 1]
pub gain-within : (f : Format) (g s : Float) → In f one g → In f one s → Within one (fma f (sub f one g) s g)
gain-within f g s ig is =
    let gs = sized f g one (U f) ig (one_at f) in
    let ss = sized f s one (U f) is (one_at f) in
    within f (fma f (sub f one g) s g) one (snap (prec f) (rest f gs.at * ss.at + gs.at * U f) (U f)) (U f) (gain-at f g s gs.at ss.at gs.is ss.is gs.most ss.most) (one_at f) (mixes-le f gs.at ss.at gs.most ss.most)

-- 1 / ratio, for a finite ratio of b units, which is 1 or more, is in [0, 1]
pub inverse-at : (f : Format) (n : ℕ) (d : ℤ) (b : ℕ) → Size f (fin false n d) b → U f ≤ b → At f (div f one (fin false n d)) (snap (prec f) (U f * U f) b) × (snap (prec f) (U f * U f) b ≤ U f)
inverse-at f n d b h l =
    let B : 0 < b = lt_of_lt_of_le (pow_pos (prec f + gap f)) l in
    let most : snap (prec f) (U f * U f) b ≤ U f = snap-below (prec f) (U f) (U f * U f) b (prec-pos f) (rep-pow (prec f) (prec f + gap f) (prec-pos f)) B (mul-le-mul_left (U f) l) in
    (div-at f one n d (U f) b (one_at f) h B (unit-fine f (snap (prec f) (U f * U f) b) (unit-le f (snap (prec f) (U f * U f) b) most)), most)

pub inverse-in : (f : Format) (n : ℕ) (d : ℤ) (b : ℕ) → Size f (fin false n d) b → U f ≤ b → In f one (div f one (fin false n d))
inverse-in f n d b h l =
    let r = inverse-at f n d b h l in
    let w = within f (div f one (fin false n d)) one (snap (prec f) (U f * U f) b) (U f) r.0 (one_at f) r.1 in
    record { fit = div-fits f one (fin false n d); above = w.above; below = w.below }

pub share : (f : Format) (n : ℕ) (d : ℤ) → T (fits f (fin false n d)) → T (le one (fin false n d)) → In f one (div f one (fin false n d))
share f n d h l = let k = known f (fin false n d) h tt in inverse-in f n d k.at k.is (sizes-of-le f one (fin false n d) (U f) k.at tt tt (one_at f).1 k.is l)

-- x times a gain in [0, 1] is no larger than x in size
pub absolute-at : (f : Format) (x : Float) (n : ℕ) → Size f x n → At f (absolute x) n
unfolding absolute
absolute-at f nan n h = absurd h
absolute-at f (inf s) n h = absurd h
absolute-at f (fin s m e) n h = (tt, h)

pub output : (f : Format) (x g : Float) → T (fits f x) → T (finite x) → In f one g → T (le (absolute (mul f x g)) (absolute x))
output f x g h k ig =
    let xs = known f x h k in
    let gs = sized f g one (U f) ig (one_at f) in
    let b : snap (prec f) (xs.at * gs.at) (U f) ≤ xs.at = rw (mul_comm xs.at gs.at) (closes (prec f) (gap f) (prec-pos f) gs.at xs.at xs.rep gs.most) in
    let r = absolute-at f (mul f x g) (snap (prec f) (xs.at * gs.at) (U f)) (mul-size f x g xs.at gs.at xs.is gs.is.1 (lt_of_le_of_lt b xs.under)) in
    let a = absolute-at f x xs.at xs.is in
    le-of-sizes f (absolute (mul f x g)) (absolute x) (snap (prec f) (xs.at * gs.at) (U f)) xs.at r.0 a.0 r.1 a.1 b

-- ---- the follower, c * level + (1 - c) * |x|, of values up to 64
follows-le : (f : Format) (c v x : ℕ) → c ≤ U f → v ≤ 2 ^ 6 * U f → x ≤ 2 ^ 6 * U f → snap (prec f) (rest f c * x) (U f) ≤ rest f c * 2 ^ 6
follows-le f c v x h k l =
    snap-below (prec f) (rest f c * 2 ^ 6) (rest f c * x) (U f) (prec-pos f) (rep-scale (prec f) (rest f c) 6 (D-rep (prec f) (gap f) (prec-pos f) c)) (pow_pos (prec f + gap f))
    (omega (arith, mul-le-mul_right (rest f c) l))

pub follower : (f : Format) (c v x : Float) → In f one c → In f sixty-four v → In f sixty-four x → Within sixty-four (fma f c v (mul f (sub f one c) x))
follower f c v x ic iv ix =
    let cs = sized f c one (U f) ic (one_at f) in
    let vs = sized f v sixty-four (2 ^ 6 * U f) iv (sixty-four-at f) in
    let xs = sized f x sixty-four (2 ^ 6 * U f) ix (sixty-four-at f) in
    let d = rest f cs.at in
    let q = snap (prec f) (d * xs.at) (U f) in
    let b : q ≤ d * 2 ^ 6 = follows-le f cs.at vs.at xs.at cs.most vs.most xs.most in
    let m = mul_at f (sub f one c) x d xs.at (rest_at f c cs.at cs.is cs.most) xs.is (unit-fine f q (le_trans b (omega (arith, mul-le-mul_right (2 ^ 6) (D-le f cs.at))))) in
    let n = snap (prec f) (cs.at * vs.at + q * U f) (U f) in
    let t : n ≤ 2 ^ 6 * U f = opens-within (prec f) (gap f) (prec-pos f) 6 (top64 f) cs.at vs.at q cs.most vs.most b in
    within f (fma f c v (mul f (sub f one c) x)) sixty-four n (2 ^ 6 * U f) (fma-at f c v (mul f (sub f one c) x) cs.at vs.at q cs.is vs.is m (unit-fine f n t)) (sixty-four-at f) t

-- what a step leaves is in [0, y] again, and fits
pub again : (f : Format) (y a b c : Float) → Within y (fma f a b c) → In f y (fma f a b c)
again f y a b c w = record { fit = fma-fits f a b c; above = w.above; below = w.below }

pub one_known : (f : Format) → At f one (U f)
one_known f = one_at f

-- 1 / r for any r with 1 ≤ r ≤ y, y finite
pub share-of : (f : Format) (r y : Float) → T (fits f r) → T (le one r) → T (le r y) → T (finite y) → In f one (div f one r)
unfolding le
share-of f nan y h k l g = absurd k
share-of f (inf true) y h k l g = absurd k
share-of f (inf false) nan h k l g = absurd l
share-of f (inf false) (inf t) h k l g = absurd g
share-of f (inf false) (fin t n d) h k l g = absurd l
share-of f (fin false n d) y h k l g = share f n d h k
share-of f (fin true n d) y h k l g = absurd (none (down d) (down_pos d) (eqb→eq (1 * down d) 0 (and_r (eqb (1 * down d) (n * up d * 1)) (eqb (1 * down d) 0) k)))
  where
    none : (x : ℕ) → 0 < x → 1 * x ≡ 0 → ⊥
    none x h e = omega arith

-- |x| ≤ y
pub zero-le-absolute : (m : ℕ) (e : ℤ) → T (le nought (fin false m e))
unfolding le
zero-le-absolute m e = le-i false (0 * down e) false (m * up e * 1) (λ t. absurd t) (λ t. absurd t) (le_trans (le_of_eq (zero-mul (down e))) zero-le)

pub absolute-in : (f : Format) (x y : Float) → T (fits f x) → T (le (absolute x) y) → In f y (absolute x)
unfolding absolute fits le
absolute-in f nan y h l = absurd l
absolute-in f (inf s) y h l = record { fit = tt; above = tt; below = l }
absolute-in f (fin s zero e) y h l = record { fit = h; above = zero-le-absolute zero e; below = l }
absolute-in f (fin s (suc m) e) y h l = record { fit = h; above = zero-le-absolute (suc m) e; below = l }

pub sized-in : (f : Format) (x y : Float) (b : ℕ) → In f y x → At f y b → Sized f x b
sized-in f x y b i a = sized f x y b i a
