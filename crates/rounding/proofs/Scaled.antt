-- Numbers by a factor, rounding included, for either format: times 1 a number stays, a level by a threshold is at most 2 ^ 20, and a sample times a gain times a makeup is at most the sample times the makeup.
-- Assumes nothing.
use mathlib.Core.Path.{◌≡◌, refl, sym, ap}
use Prim.Native.Nat.{ℕ, ◌+◌, ◌-◌, ◌*◌, ◌^◌, ◌≤◌, ◌<◌}
use native.Mathlib.Nat.{le_trans, le_of_eq, lt_of_lt_of_le, lt_of_le_of_lt, mul-one, mul_comm, mul-le-mul, mul-le-mul_right, mul-le-mul_left}
use native.Mathlib.Omega.{arith}
use mathlib.Core.Bool.{Bool, true, false}
use lib.IntN.{ℤ, pos, negsuc}
use lib.Dec.{T, lit<}
use lib.Pow.{pow_pos, pow-add}
use lib.Ieee.{Float, nan, inf, fin, Format, binary32, binary64, prec, up, down, round, mul, div, le, fits}
use lib.Ieee.Positive.{between}
use lib.Ieee.Scale.{overflow, finite}
use Rattle.rounding.specs.Casts.{absolute}
use Rattle.rounding.proofs.Snap.{snap, Rep, snap-mono, snap-below, rep-pow}
use Rattle.rounding.proofs.Towards.{closes}
use Rattle.rounding.proofs.Units.{gap, U, prec-pos, round-own}
use Rattle.rounding.proofs.Sizes.{At, le-of-sizes, sizes-of-le, mul-size, mul_at, div-at}
use Rattle.rounding.proofs.Smoothing.{one, one_known, sixty-four, sixty-four-at, In, Within, within, Known, known, Sized, sized-in, absolute-at}

-- ---- a number times 1
own : (f : Format) (s : Bool) (m : ℕ) (e : ℤ) → T (fits f (fin s m e)) → round f s (m * up e * (1 * 1)) (down e * 1) ≡ fin s m e
own f s m e h = simp mul-one (round-own f s m e h)

pub times-one : (f : Format) (x : Float) → T (fits f x) → mul f x one ≡ x
unfolding mul
times-one f nan h = refl
times-one f (inf true) h = refl
times-one f (inf false) h = refl
times-one f (fin true m e) h = own f true m e h
times-one f (fin false m e) h = own f false m e h

-- ---- a level by a threshold
abbrev pub threshold : Float
threshold = fin false 1 (negsuc 13)

abbrev pub most-over : Float
most-over = fin false 1 (pos 20)

threshold-at : (f : Format) → At f threshold (2 ^ (prec f + gap f - 14))
threshold-at binary32 = (tt, refl)
threshold-at binary64 = (tt, refl)

most-over-at : (f : Format) → At f most-over (2 ^ 20 * U f)
most-over-at f = (tt, sym (mul-one (2 ^ 20 * U f)))

parts : (f : Format) → U f ≡ 2 ^ 14 * 2 ^ (prec f + gap f - 14)
parts binary32 = refl
parts binary64 = refl

room : (f : Format) → 2 ^ 20 * U f < overflow f
room binary32 = lit< tt
room binary64 = lit< tt

divided : (f : Format) (v : Float) (n : ℕ) (d : ℤ) → In f sixty-four v → T (fits f (fin false n d)) → T (le threshold (fin false n d)) → Within most-over (div f v (fin false n d))
divided f v n d iv h l =
    let a = sized-in f v sixty-four (2 ^ 6 * U f) iv (sixty-four-at f) in
    let k = known f (fin false n d) h tt in
    let w = 2 ^ (prec f + gap f - 14) in
    let b : w ≤ k.at = sizes-of-le f threshold (fin false n d) w k.at tt tt (threshold-at f).1 k.is l in
    let some : 0 < k.at = lt_of_lt_of_le (pow_pos (prec f + gap f - 14)) b in
    let most : snap (prec f) (a.at * U f) k.at ≤ 2 ^ 20 * U f =
    snap-below (prec f) (2 ^ 20 * U f) (a.at * U f) k.at (prec-pos f) (rep-twenty f) some (reach a.at (U f) w k.at a.most b (parts f)) in
    let r = div-at f v n d a.at k.at a.is k.is some (lt_of_le_of_lt most (room f)) in
    within f (div f v (fin false n d)) most-over (snap (prec f) (a.at * U f) k.at) (2 ^ 20 * U f) r (most-over-at f) most
  where
    rep-twenty : (f : Format) → Rep (prec f) (2 ^ 20 * U f)
    rep-twenty f = rw (← pow-add 2 20 (prec f + gap f)) (rep-pow (prec f) (20 + (prec f + gap f)) (prec-pos f))

    group : (u w : ℕ) → 2 ^ 6 * u * (2 ^ 14 * w) ≡ 2 ^ 20 * u * w
    group u w = omega arith

    reach : (a u w b : ℕ) → a ≤ 2 ^ 6 * u → w ≤ b → u ≡ 2 ^ 14 * w → a * u ≤ 2 ^ 20 * u * b
    reach a u w b h k e = le_trans (mul-le-mul_right u h) (le_trans (le_of_eq (ap (λ (z : ℕ). 2 ^ 6 * u * z) e)) (le_trans (le_of_eq (group u w)) (mul-le-mul_left (2 ^ 20 * u) k)))

-- a level of at most 64 by a threshold of 2 ^ -14 to 1 is at most 2 ^ 20
pub quotient : (f : Format) (v k : Float) → In f sixty-four v → T (fits f k) → T (le threshold k) → T (le k one) → Within most-over (div f v k)
quotient f v nan iv h l g = absurd (between threshold nan one tt tt l g)
quotient f v (inf s) iv h l g = absurd (between threshold (inf s) one tt tt l g)
quotient f v (fin true n d) iv h l g = absurd (between threshold (fin true n d) one tt tt l g)
quotient f v (fin false n d) iv h l g = divided f v n d iv h l

-- ---- a sample of at most 64 in size, times a gain of at most 1, times a makeup of at most 4
abbrev pub four : Float
four = fin false 1 (pos 2)

abbrev pub loudest : Float
loudest = fin false 1 (pos 8)

four-at : (f : Format) → At f four (2 ^ 2 * U f)
four-at f = (tt, sym (mul-one (2 ^ 2 * U f)))

loudest-at : (f : Format) → At f loudest (2 ^ 8 * U f)
loudest-at f = (tt, sym (mul-one (2 ^ 8 * U f)))

pub size-finite : (x : Float) → T (le (absolute x) sixty-four) → T (finite x)
unfolding absolute le
size-finite nan l = l
size-finite (inf s) l = l
size-finite (fin s n e) l = tt

module _ (f : Format) (x g k : Float) (hx : T (fits f x)) (lx : T (le (absolute x) sixty-four)) (ig : In f one g) (ik : In f four k) where
  xs : Known f x
  xs = known f x hx (size-finite x lx)

  gs : Sized f g (U f)
  gs = sized-in f g one (U f) ig (one_known f)

  ks : Sized f k (2 ^ 2 * U f)
  ks = sized-in f k four (2 ^ 2 * U f) ik (four-at f)

  abbrev first : ℕ
  first = snap (prec f) (xs.at * gs.at) (U f)

  abbrev second : ℕ
  second = snap (prec f) (first * ks.at) (U f)

  -- x times k, rounded: the input times makeup
  abbrev input : ℕ
  input = snap (prec f) (xs.at * ks.at) (U f)

  first-most : first ≤ xs.at
  first-most = rw (mul_comm xs.at gs.at) (closes (prec f) (gap f) (prec-pos f) gs.at xs.at xs.rep gs.most)

  x-most : xs.at ≤ 2 ^ 6 * U f
  x-most = let a = absolute-at f x xs.at xs.is in sizes-of-le f (absolute x) sixty-four xs.at (2 ^ 6 * U f) a.0 tt a.1 (sixty-four-at f).1 lx

  input-most : input ≤ 2 ^ 8 * U f
  input-most =
      snap-below (prec f) (2 ^ 8 * U f) (xs.at * ks.at) (U f) (prec-pos f) (rw (← pow-add 2 8 (prec f + gap f)) (rep-pow (prec f) (8 + (prec f + gap f)) (prec-pos f))) (pow_pos (prec f + gap f))
      (le_trans (mul-le-mul x-most ks.most) (le_of_eq (group (U f))))
    where
      group : (u : ℕ) → 2 ^ 6 * u * (2 ^ 2 * u) ≡ 2 ^ 8 * u * u
      group u = omega arith

  second-most : second ≤ input
  second-most = snap-mono (prec f) (first * ks.at) (U f) (xs.at * ks.at) (U f) (prec-pos f) (pow_pos (prec f + gap f)) (pow_pos (prec f + gap f)) (mul-le-mul_right (U f) (mul-le-mul_right ks.at first-most))

  fine : (n : ℕ) → n ≤ 2 ^ 8 * U f → n < overflow f
  fine n h = lt_of_le_of_lt h (less f)
    where
      less : (f : Format) → 2 ^ 8 * U f < overflow f
      less binary32 = lit< tt
      less binary64 = lit< tt

  output-at : At f (absolute (mul f (mul f x g) k)) second
  output-at =
      absolute-at f (mul f (mul f x g) k) second
      (mul-size f (mul f x g) k first ks.at (mul-size f x g xs.at gs.at xs.is gs.is.1 (lt_of_le_of_lt first-most xs.under)) ks.is.1 (fine second (le_trans second-most input-most)))

  -- no output is larger than its input times makeup, and none than 256
  pub output-most : T (le (absolute (mul f (mul f x g) k)) (mul f (absolute x) k))
  output-most =
      let i = mul_at f (absolute x) k xs.at ks.at (absolute-at f x xs.at xs.is) ks.is (fine input input-most) in
      le-of-sizes f (absolute (mul f (mul f x g) k)) (mul f (absolute x) k) second input output-at.0 i.0 output-at.1 i.1 second-most

  pub output-loudest : T (le (absolute (mul f (mul f x g) k)) loudest)
  output-loudest = le-of-sizes f (absolute (mul f (mul f x g) k)) loudest second (2 ^ 8 * U f) output-at.0 tt output-at.1 (loudest-at f).1 (le_trans second-most input-most)
