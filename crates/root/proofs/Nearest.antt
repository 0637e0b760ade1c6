-- The promises of specs/Nearest.antt.
-- Assumes nothing.
use Rattle.std.proofs.Common.{◌≡◌, ℕ, ◌+◌, ◌*◌, ◌/◌, ◌^◌, ◌<◌, false, T, sym, refl, ap, ◌∙◌, subst, inl, inr, eq-or-lt_of_le, mul-div_cancel, arith}
use lib.Ieee.{Float, nan, inf, fin, Format, low, up, down, fits, eq}
use lib.Ieee.Bits.{is_true}
use lib.Ieee.Fits.{down_pos}
use lib.Ieee.Positive.{positive, positive-finite}
use lib.Ieee.Scale.{finite}
use Rattle.rounding.proofs.Closest.{le-or-lt}
use Rattle.rounding.proofs.Units.{U-is, Size}
use Rattle.rounding.proofs.Sizes.{At, at-unique}
use Rattle.rounding.proofs.Smoothing.{known}
use Rattle.rounding.proofs.Gains.{above}
use Rattle.rounding.proofs.Zero as Zero
use Rattle.root.specs.Root.{root}
use Rattle.root.specs.Nearest.{nought, units_of, NearestTo, Nearest, Values}
use Rattle.root.proofs.Sizes.{root_size, root-nearest}
use Rattle.root.proofs.Laws.{root-one, root-fits, root-above, root-positive, root-keeps-order, one-le-root, root-le-itself}
use Rattle.root.proofs.Special.{root-zero, root_below}

units-are : (f : Format) (x : Float) (a : ℕ) → Size f x a → units_of f x ≡ a
unfolding units_of
units-are f nan a h = absurd h
units-are f (inf s) a h = absurd h
units-are f (fin s m e) a h = ap (λ (z : ℕ). m * up e * z / down e) (U-is f) ∙ ap (λ (z : ℕ). z / down e) h ∙ mul-div_cancel a (down_pos e)

module _ (f : Format) (x : Float) (hx : T (fits f x)) (px : T (positive x)) where
  is-nearest : NearestTo f x (root f x)
  is-nearest =
      let a = above f x hx px in
      let r = root-above f x a.0 a.1 in
      let n = root-nearest f a.0 a.1.rep in
      let x-is = units-are f x a.0 a.1.at.1 in
      let r-is = units-are f (root f x) (root_size f a.0) r.at.1 in
      record {
        smaller = λ z h g l. let k = known f z h g in let z-is = units-are f z k.at k.is in rw (z-is, r-is, x-is, U-is f) (n.smaller k.at k.rep (rw (z-is, r-is) at l));
        larger = λ z h g l. let k = known f z h g in let z-is = units-are f z k.at k.is in rw (z-is, r-is, x-is, U-is f) (n.larger k.at k.rep (rw (z-is, r-is) at l));
      }

  -- the nearest of two has the units of the other
  same_units : (y z : Float) → T (fits f y) → T (finite y) → T (fits f z) → T (finite z) → NearestTo f x y → NearestTo f x z → units_of f y ≡ units_of f z
  same_units y z hy fy hz fz p q = elim (le-or-lt (units_of f y) (units_of f z)) [
    | inl l ↦ elim (eq-or-lt_of_le l) [ inl e ↦ e | inr k ↦ absurd (clash (units_of f y) (units_of f z) (q.smaller y hy fy k) (p.larger z hz fz k)) ]
    | inr k ↦ absurd (clash (units_of f z) (units_of f y) (p.smaller z hz fz k) (q.larger y hy fy k))
  ]
    where
      clash : (u v : ℕ) → (u + v) * (u + v) < 4 * (units_of f x * 2 ^ low f) → 4 * (units_of f x * 2 ^ low f) < (v + u) * (v + u) → ⊥
      clash u v h k = omega arith

  only : (y : Float) → T (fits f y) → T (positive y) → NearestTo f x y → y ≡ root f x
  only y hy py n =
      let a = above f x hx px in
      let r = root-above f x a.0 a.1 in
      let b = above f y hy py in
      let g = root-fits f x hx in
      let e : b.0 ≡ root_size f a.0 = sym (units-are f y b.0 b.1.at.1) ∙ same_units y (root f x) hy (positive-finite y py) g (positive-finite (root f x) (root-positive f x hx px)) n is-nearest ∙ units-are f (root f x) (root_size f a.0) r.at.1 in
      at-unique f y (root f x) b.0 hy g b.1.at (subst (λ (z : ℕ). At f (root f x) z) (sym e) r.at) b.1.some

pub nearest : (f : Format) → Nearest f
nearest f = record { held = root-fits f; nearest = is-nearest f; only = λ x y hx px. only f x hx px y }

pub values : (f : Format) → Values f
values f = record {
  of_one = root-one f;
  keeps_order = root-keeps-order f;
  from_one = one-le-root f;
  up_to_itself = root-le-itself f;
  stays_positive = root-positive f;
  of_zero = λ x h. sym (root-zero f x (ap (eq x) (Zero.nought f false) ∙ is_true (eq x nought) h));
  below_zero = root_below f;
  of_nan = unfold root in refl;
}
