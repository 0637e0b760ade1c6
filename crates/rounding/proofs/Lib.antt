-- The laws of rounding, once for any format, and what the functions of fused multiply-add need of them. Each group in two sentences, in the order of reading.

-- The face. What other crates and requests may ask of rounding: it keeps what fits, keeps order, is off by half a step at most; and `fma` grows with each operand.
-- Each is one line over the next group: read this file first, and that group for the proofs.
pub mod Laws
-- Sizes. `Snap` rounds whole numbers to p digits and then zeros, with no floats in sight, and `Nearest` shows that no such number is nearer; `Units` shows that `round` is `snap` on a float's size, counted in its format's smallest value.
-- `Sizes` carries that to order and to each operation on values that are not below zero.
pub mod Snap
pub mod Nearest
pub mod Units
pub mod Sizes
-- Steps of the gate and of the leveller. `Towards` moves one whole number towards another by a smoothing number: closing falls, opening never does, nothing leaves its bounds.
-- `Smoothing` says the same of floats, rounding included: the gate's state and gain, the follower, the output. `Gains` has gains that are 1 divided by something, `Scaled` numbers by a factor.
pub mod Towards
pub mod Smoothing
pub mod Gains
pub mod Scaled
-- The odd digit. `Closest` has the nearest whole number from a quotient and a rest; `Sticky` a number cut to an odd one, which stands for all that was cut off.
-- `Round` shows that rounding such a number rounds the whole fraction, so that 62 or 124 digits are enough for any sum.
pub mod Closest
pub mod Sticky
pub mod Round
-- Patterns and values. `Pattern` has the bit pattern that `round` gives, which is one sum of an exponent and of the digits kept.
-- `Values` goes the other way, from a pattern to its fraction, and has `fma` by any fractions that its operands equal.
pub mod Pattern
pub mod Values
-- The fused sum. `Fused` puts the two terms side by side, the smaller cut to an odd number; `Terms` is `fma` of any three patterns by that, `Nearby` of three normal ones by whole terms.
-- `Zero` and `Nan` are the cases that need no whole numbers: what the code's tests say, and what is returned there.
pub mod Fused
pub mod Terms
pub mod Nearby
pub mod Zero
pub mod Nan
-- By way of a wider format. `Twice`: a number rounded to a wider format and then to a narrower one is rounded once, unless it lies halfway between two of the narrower's and is not exact. `Wider` says so of an `f64`'s bits, as the code cuts them.
-- `WideSum` has the sum of a product and a third `f32` as one rounding in either format; `ByWider` is `fma` of three `f32` by the bits of that sum, a law for each test of the code.
pub mod Twice
pub mod Wider
pub mod WideSum
pub mod ByWider
-- Machine words. `Machine` shows that shifts, remainders and counts of zeros on 64 or 128 digits compute what `specs/Steps.antt` says.
-- Its last part is of numbers of two words: their top 63 digits, and one word's number moved to the left by another's shifts.
pub mod Machine
-- Casts. `narrow`, `absolute` and `to_unsigned` by patterns and tests, each as the code computes it.
-- The rounding in `narrow` is `Pattern`'s; the others round nothing.
pub mod Casts
