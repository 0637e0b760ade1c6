-- No number is both a threshold's dB and a threshold's factor: the one is at most 0, the other at least 2^-14.
-- Assumes nothing.
use mathlib.Core.Path.{◌≡◌, refl}
use mathlib.Core.Bool.{Bool, true, false, ◌&&◌, ◌||◌}
use Prim.Native.Nat.{ℕ, ◌*◌, ◌≤◌}
use native.Mathlib.Nat.{mul-pos, le_of_lt, le_of_eq}
use native.Mathlib.Omega.{arith}
use lib.IntN.{pos}
use lib.Dec.{T, eqb, ltb, ltb→lt, eqb→eq}
use lib.Ieee.{Float, nan, inf, fin, up, down, le, neg}
use lib.Ieee.Fits.{up_pos, and_l, and_r}
use lib.Ieee.Positive.{above, above_of_le}
use Rattle.answer.specs.Figures.{f32, nought, one}
use Rattle.answer.specs.Checks.{in_range}

at_most : (a b : ℕ) → T (ltb a b || (eqb a b && true)) → a ≤ b
at_most a b t = go (ltb a b) refl t
  where
    go : (l : Bool) → ltb a b ≡ l → T (l || (eqb a b && true)) → a ≤ b
    go true e t = le_of_lt (ltb→lt a b (rw e tt))
    go false e t = le_of_eq (eqb→eq a b (and_l (eqb a b) true t))

not-above : (x : Float) → T (le x nought) → T (above x) → ⊥
unfolding le
not-above nan h p = h
not-above (inf true) h p = p
not-above (inf false) h p = h
not-above (fin true m e) h p = p
not-above (fin false m e) h p =
    let k = at_most (m * up e * down (pos 0)) (0 * up (pos 0) * down e) h in
    let l = mul-pos (ltb→lt 0 m p) (up_pos e) in
    omega arith

pub never_both : (x : Float) → T (in_range (neg (f32 80 1)) nought x) → T (in_range (f32 1 16384) one x) → ⊥
unfolding f32
never_both x d k = not-above x (and_r (le (neg (f32 80 1)) x) (le x nought) d) (above_of_le (f32 1 16384) x tt (and_l (le (f32 1 16384) x) (le x one) k))
