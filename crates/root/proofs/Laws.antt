-- The laws of the root on floats, once for any format: it is finite and above zero where its argument is, keeps order, and from 1 up lies between 1 and its argument.
-- Assumes nothing.
use Rattle.std.proofs.Common.{◌≡◌, ℕ, zero, suc, ◌+◌, ◌*◌, ◌/◌, ◌^◌, ◌<◌, true, false, T, refl, inl, inr, lt_of_le_of_lt, le_of_lt, mul-le-mul_right}
use lib.Ieee.{Float, nan, inf, fin, Format, binary32, binary64, prec, low, up, down, fits, le}
use lib.Ieee.Fits.{nan-fits, inf-fits, round-fits}
use lib.Ieee.Positive.{positive}
use lib.Ieee.Scale.{overflow}
use Rattle.rounding.proofs.Closest.{le-or-lt}
use Rattle.rounding.proofs.Snap.{Rep}
use Rattle.rounding.proofs.Units.{U}
use Rattle.rounding.proofs.Sizes.{le-of-sizes, sizes-of-le}
use Rattle.rounding.proofs.Smoothing.{one, one_known}
use Rattle.rounding.proofs.Gains.{Above, above, one-above, at-positive, FromOne, from_one}
use Rattle.root.specs.Root.{root, rooted, whole_root}
use Rattle.root.proofs.Sizes.{root_size, root-rep, root-nearest, nearest-mono, nearest-most, root-some, root-least, root-most, root-at}

pub root-one : (f : Format) → root f one ≡ one
unfolding root
root-one binary32 = refl
root-one binary64 = refl

module _ (f : Format) where
  pub root-fits : (x : Float) → T (fits f x) → T (fits f (root f x))
  unfolding root rooted
  root-fits nan h = nan-fits f
  root-fits (inf true) h = nan-fits f
  root-fits (inf false) h = inf-fits f false
  root-fits (fin s zero e) h = h
  root-fits (fin true (suc m) e) h = nan-fits f
  root-fits (fin false (suc m) e) h = round-fits f false (2 * whole_root (suc m * up e * 4 ^ suc (low f) / down e) + 1) (2 ^ (2 + low f))

  -- ---- on sizes
  root-under : (a : ℕ) → Rep (prec f) a → a < overflow f → root_size f a < overflow f
  root-under a rep h = elim (le-or-lt (U f) a) [
    | inl l ↦ lt_of_le_of_lt (root-most f a rep l) h
    | inr l ↦ lt_of_le_of_lt (nearest-most f a (root_size f a) (root-nearest f a rep) (U f) (one-above f).rep (mul-le-mul_right (U f) (le_of_lt l))) (one-above f).under
  ]

  pub root-above : (x : Float) (a : ℕ) → Above f x a → Above f (root f x) (root_size f a)
  root-above x a h =
      let o = root-under a h.rep h.under in
      record { at = root-at f x a h.at h.some o; some = root-some f a h.rep h.some; rep = root-rep f a; under = o }

  pub root-from-one : (x : Float) (a : ℕ) → FromOne f x a → FromOne f (root f x) (root_size f a)
  root-from-one x a h = record { above = root-above x a h.above; least = root-least f a h.above.rep h.least }

  -- ---- on floats
  pub root-positive : (x : Float) → T (fits f x) → T (positive x) → T (positive (root f x))
  root-positive x h p = let a = above f x h p in let r = root-above x a.0 a.1 in at-positive f (root f x) (root_size f a.0) r.at r.some

  pub root-keeps-order : (x y : Float) → T (fits f x) → T (positive x) → T (fits f y) → T (positive y) → T (le x y) → T (le (root f x) (root f y))
  root-keeps-order x y hx px hy py l =
      let a = above f x hx px in
      let b = above f y hy py in
      let r = root-above x a.0 a.1 in
      let s = root-above y b.0 b.1 in
      let m = sizes-of-le f x y a.0 b.0 a.1.at.0 b.1.at.0 a.1.at.1 b.1.at.1 l in
      le-of-sizes f (root f x) (root f y) (root_size f a.0) (root_size f b.0) r.at.0 s.at.0 r.at.1 s.at.1
      (nearest-mono f a.0 b.0 (root_size f a.0) (root_size f b.0) r.rep s.rep (root-nearest f a.0 a.1.rep) (root-nearest f b.0 b.1.rep) m)

  module _ (x : Float) (hx : T (fits f x)) (px : T (positive x)) (l : T (le one x)) where
    pub one-le-root : T (le one (root f x))
    one-le-root =
        let a = from_one f x hx px l in
        let r = root-from-one x a.0 a.1 in
        le-of-sizes f one (root f x) (U f) (root_size f a.0) tt r.above.at.0 (one_known f).1 r.above.at.1 r.least

    pub root-le-itself : T (le (root f x) x)
    root-le-itself =
        let a = from_one f x hx px l in
        let h = a.1.above in
        let r = root-above x a.0 h in
        le-of-sizes f (root f x) x (root_size f a.0) a.0 r.at.0 h.at.0 r.at.1 h.at.1 (root-most f a.0 h.rep a.1.least)
