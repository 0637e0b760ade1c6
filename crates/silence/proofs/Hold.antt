-- A hold in samples is at most what the longest hold lasts at the highest rate: both products keep the order, so the bound is one computed case. For any longest hold, then for the gate's.
-- Assumes nothing.
use mathlib.Core.Path.{◌≡◌, refl}
use mathlib.Core.Bool.{true, false}
use Prim.Native.Nat.{ℕ, ◌*◌, ◌/◌, ◌-◌, ◌^◌, ◌≤◌, ◌<◌, zero-le}
use native.Mathlib.Nat.{le_refl, le_trans, le_of_eq, lt_of_le_of_lt, min-le_left, div-one, mul-le-mul, mul-le-mul_right, le_of_mul-le-mul_right}
use native.Mathlib.Omega.{arith}
use lib.Dec.{lit<}
use lib.Pow.{pow_pos}
use lib.Ieee.{Float, nan, inf, fin, binary32, up, down, size, to_unsigned, mul}
use lib.Ieee.Fits.{down_pos}
use lib.Ieee.Nearest.{div_mono}
use lib.Ieee.Scale.{overflow}
use Rattle.rounding.proofs.Snap.{snap, snap-mono}
use Rattle.rounding.proofs.Units.{U, prec-pos}
use Rattle.rounding.proofs.Sizes.{At, mul_at}
use Rattle.rounding.proofs.Smoothing.{In, sized-in}
use Rattle.answer.specs.Figures.{f32, highest_rate}
use Rattle.noise_gate_settings.specs.Figures.{longest_hold}
use Rattle.noise_gate.specs.Figures.{longest_count}
use Rattle.noise_gate_sample.specs.Step.{hold_samples}
use Rattle.noise_gate_settings.specs.declared.Settings.{Settings}

-- 1.0 in units of the smallest f32, and 0.001 in them
abbrev unit : ℕ
unit = U binary32

abbrev thousandth : ℕ
thousandth = 8589935 * 2 ^ 116

thousandth-at : At binary32 (f32 1 1000) thousandth
unfolding f32
thousandth-at = (tt, refl)

rate-at : At binary32 (f32 highest_rate 1) (highest_rate * unit)
unfolding f32
rate-at = (tt, refl)

-- a product rounded keeps the order
product_le : (a b c d n : ℕ) → a ≤ c → b ≤ d → snap 24 (c * d) unit ≡ n → snap 24 (a * b) unit ≤ n
product_le a b c d n h k e =
    le_trans (snap-mono 24 (a * b) unit (c * d) unit (prec-pos binary32) (pow_pos 149) (pow_pos 149) (mul-le-mul_right unit (mul-le-mul h k))) (le_of_eq e)

fewer : (a n x d u : ℕ) → x * u ≡ a * d → a ≤ n * u → x * 1 * u ≤ n * d * u
fewer a n x d u e k = omega (arith, mul-le-mul_right d k)

-- and so does truncation
cut : (x : Float) (a n : ℕ) → At binary32 x a → a ≤ n * unit → to_unsigned 64 x ≤ n
unfolding to_unsigned
cut nan a n h k = zero-le
cut (inf s) a n h k = absurd h.0
cut (fin true m e) a n h k = zero-le
cut (fin false m e) a n h k =
    le_trans (min-le_left (m * up e / down e) (2 ^ 64 - 1))
    (le_trans (div_mono (m * up e) (down e) n 1 (down_pos e) (pow_pos 0) (le_of_mul-le-mul_right (fewer a n (m * up e) (down e) unit h.1 k) (pow_pos 149))) (le_of_eq (div-one n)))

-- ---- for any longest hold, of so many seconds, which lasts count samples at the highest rate
module _ (longest seconds count : ℕ) (hold_at : At binary32 (f32 longest 1) (longest * unit))
    (seconds-are : snap 24 (longest * unit * thousandth) unit ≡ seconds) (count-is : snap 24 (seconds * (highest_rate * unit)) unit ≡ count * unit)
    (seconds-fine : seconds < overflow binary32) (count-fine : count * unit < overflow binary32) where
  at_most : (s : Settings) → In binary32 (f32 longest 1) s.hold → In binary32 (f32 highest_rate 1) s.rate → hold_samples s ≤ count
  unfolding hold_samples
  at_most s ih ir =
      let h = sized-in binary32 s.hold (f32 longest 1) (longest * unit) ih hold_at in
      let r = sized-in binary32 s.rate (f32 highest_rate 1) (highest_rate * unit) ir rate-at in
      let p = snap 24 (h.at * thousandth) unit in
      let q = snap 24 (p * r.at) unit in
      let pl : p ≤ seconds = product_le h.at thousandth (longest * unit) thousandth seconds h.most (le_refl thousandth) seconds-are in
      let ql : q ≤ count * unit = product_le p r.at seconds (highest_rate * unit) (count * unit) pl r.most count-is in
      let hold-seconds = mul binary32 s.hold (f32 1 1000) in
      let seconds-at = mul_at binary32 s.hold (f32 1 1000) h.at thousandth h.is thousandth-at (lt_of_le_of_lt pl seconds-fine) in
      cut (mul binary32 hold-seconds s.rate) q count (mul_at binary32 hold-seconds s.rate p r.at seconds-at r.is (lt_of_le_of_lt ql count-fine)) ql

-- ---- the gate's: at most 96,000
longest-at : At binary32 (f32 longest_hold 1) (longest_hold * unit)
unfolding f32
longest-at = (tt, refl)

unfoldable longest-seconds : ℕ
unfolding snap size
longest-seconds = snap 24 (longest_hold * unit * thousandth) unit

pub hold-samples-most : (s : Settings) → In binary32 (f32 longest_hold 1) s.hold → In binary32 (f32 highest_rate 1) s.rate → hold_samples s ≤ longest_count
unfolding snap size longest-seconds
hold-samples-most s = at_most longest_hold longest-seconds longest_count longest-at refl refl (lit< tt) (lit< tt) s
