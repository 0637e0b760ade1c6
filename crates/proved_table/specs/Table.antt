-- Document 01's proved table, P1 to P10: a row for each, what the definitions that the contracts cite give, beside what the paper says. Definitions only.
-- Assumes nothing.
use Rattle.std.specs.Prelude.{ℕ, ◌-◌, cond, List, [], ◌∷◌, map, Option, Some, None}
use Prim.Native.String.{String}
use Rattle.std.specs.Float.{binary32}
use Rattle.std.specs.Float.Ieee.{of_bits, to_bits, of_int, to_unsigned, whole, neg, add, mul, sub, div, eq, lt, le}
use Rattle.rounding.specs.Fma.{fma}
use Rattle.rounding.specs.Casts.{absolute}
use Rattle.answer.specs.Figures.{f32, f64, nought, one}
use Rattle.answer.specs.Checks.{is_rate, is_smoothing}
use Rattle.answer.specs.Names.{bytes, same}
use Rattle.fold.specs.Fold.{state_after, out_after}
use Rattle.common.specs.Follower.{toward, followed}
use Rattle.noise_gate_settings.specs.Ranges.{in_its_range, worked, allowed, with_setting, settable}
use Rattle.noise_gate_settings.specs.declared.Settings.{Settings}
use Rattle.noise_gate_settings.specs.declared.Setting.TheVariants.{Release, Hold}
use Rattle.noise_gate_sample.specs.Step.{hold_samples, gain_at, level, loud, counter, aim, target, state, gain, output, next}
use Rattle.noise_gate.specs.Bounds.{in_bounds, acceptable}
use Rattle.noise_gate.specs.Calls.{at_rest, made_settings, make, set_typed}
use Rattle.noise_gate_sample.specs.declared.Registers.{Registers}
use Rattle.eq_bands.specs.Bands as Bands
use Rattle.eq_bands.specs.Bands.{passthrough}
use Rattle.eq_bands.specs.Names.{all_digits, behind, number_of, after_plus, index_of, setting_at, named}
use Rattle.eq.specs.States as States
use Rattle.eq.specs.States.{made, band_at, delay_at, value_at, with_band}
use Rattle.eq.specs.Calls.{set_band, set_found, set, read_found, read}
use Rattle.eq.specs.declared.Equaliser.{Equaliser}
use Rattle.answer.specs.Told.{Told}
use Rattle.pcm.specs.Samples.{sample_of, word_of, heard, whole_size, to_whole, written}
use Rattle.pcm_gate.specs.Bytes.{words_of, bytes_of}
use Rattle.pcm_gate.specs.Pass as Pass
use Rattle.pcm_gate.specs.Program.{program_gate, program}

pub record Row : Type 0 where
  pub given : List ℕ
  pub said : List ℕ

-- ---- P1 to P5: `fma` of three f32 bit patterns, as a bit pattern
unfoldable pub on_bits : ℕ → ℕ → ℕ → ℕ
unfolding fma of_bits to_bits
on_bits a b c = to_bits binary32 (fma binary32 (of_bits binary32 a) (of_bits binary32 b) (of_bits binary32 c))

-- the same by two roundings: the product's, then the sum's
unfoldable pub apart : ℕ → ℕ → ℕ → ℕ
unfolding add mul of_bits to_bits
apart a b c = to_bits binary32 (add binary32 (mul binary32 (of_bits binary32 a) (of_bits binary32 b)) (of_bits binary32 c))

unfoldable pub p1 : Row
unfolding on_bits apart
p1 = record { given = on_bits 0x3f80_0001 0x3f80_0001 0xbf80_0002 ∷ apart 0x3f80_0001 0x3f80_0001 0xbf80_0002 ∷ []; said = 0x2880_0000 ∷ 0 ∷ [] }

unfoldable pub p2 : Row
unfolding on_bits
p2 = record { given = on_bits 0x7f7f_ffff 0x4000_0000 0xff7f_ffff ∷ []; said = 0x7f7f_ffff ∷ [] }

unfoldable pub p3 : Row
unfolding on_bits
p3 = record { given = on_bits 0x0000_0001 0x3f00_0000 0 ∷ []; said = 0 ∷ [] }

unfoldable pub p4 : Row
unfolding on_bits
p4 = record { given = on_bits 0x3f80_0000 0x8000_0000 0x8000_0000 ∷ on_bits 0x3f80_0000 0x3f80_0000 0xbf80_0000 ∷ []; said = 0x8000_0000 ∷ 0 ∷ [] }

unfoldable pub p5 : Row
unfolding on_bits
p5 = record { given = on_bits 0x7f80_0000 0 0x3f80_0000 ∷ []; said = 0x7fc0_0000 ∷ [] }

-- ---- P6 and P7: a made gate's settings at 48,000 Hz, with a hold of n / d ms. Its follower's numbers are 0, so the level is the sample's size, and a sample above 1 is loud
unfoldable pub holding : ℕ → ℕ → Settings
unfolding with_setting made_settings f32
holding n d = with_setting (made_settings (f32 48000 1) nought nought) (Hold (f32 n d))

unfoldable pub samples_held : ℕ → ℕ → ℕ
unfolding holding hold_samples f32 to_unsigned mul
samples_held n d = hold_samples (holding n d)

-- 1 where the gate aims open, at a sample that is not loud, one after a loud one
unfoldable pub aims_open : ℕ → ℕ → ℕ
unfolding holding next level loud counter aim target state hold_samples followed toward f32 to_unsigned mul sub div lt le fma absolute
aims_open n d =
    let s = holding n d in
    cond (aim s (next s at_rest (f32 2 1)) nought) 1 0

-- the state that a sample that is not loud leaves a gate in, from a state and with release's smoothing number, on bits
unfoldable pub closed_to : ℕ → ℕ → ℕ
unfolding holding with_setting next level loud counter aim target state followed toward of_bits to_bits mul sub lt fma absolute
closed_to c from =
    let s = with_setting (holding 0 1) (Release (f32 100 1) (of_bits binary32 c)) in
    let m : Registers = record { level = nought; state = of_bits binary32 from; counter = 0; quiet = 0 } in
    to_bits binary32 (next s m nought).state

-- hold 1/16 ms, 50 ms and 0
unfoldable pub p6 : Row
unfolding samples_held
p6 = record { given = samples_held 1 16 ∷ samples_held 50 1 ∷ samples_held 0 1 ∷ []; said = 3 ∷ 2400 ∷ 0 ∷ [] }

-- H 0, 1 and 2, each with how the gate aims; 2^-126 under the largest smoothing number below 1
unfoldable pub p7 : Row
unfolding samples_held aims_open closed_to
p7 = record {
  given = samples_held 0 1 ∷ aims_open 0 1 ∷ samples_held 1 32 ∷ aims_open 1 32 ∷ samples_held 3 64 ∷ aims_open 3 64 ∷ closed_to 0x3f7f_ffff 0x0080_0000 ∷ [];
  said = 0 ∷ 0 ∷ 1 ∷ 0 ∷ 2 ∷ 1 ∷ 0x0080_0000 ∷ [];
}

-- ---- P8: the band that a name says, and 99 where it says none
unfoldable pub band_said : Option ℕ → ℕ
band_said (Some i) = i
band_said None = 99

unfoldable pub band : String → ℕ
unfolding band_said all_digits behind number_of after_plus index_of same
band name = band_said (index_of (bytes name))

-- the answers to reading that name on a made equaliser at 48,000 Hz, and to setting it to 1 dB; the dB of band 3 after that
abbrev flat : Equaliser
flat = made (f32 48000 1)

unfoldable pub read_as : String → ℕ
unfolding all_digits behind number_of after_plus index_of same States.acceptable Bands.settable Bands.all_settable Bands.band_settable Bands.in_its_range Bands.is_unity Bands.is_passthrough is_rate read_found read band_at value_at whole absolute to_bits neg f32 f64 le lt
read_as name = (read flat (bytes name)).number

unfoldable pub after_set : String → Told Equaliser
unfolding all_digits behind number_of after_plus index_of setting_at named same States.acceptable Bands.settable Bands.all_settable Bands.band_settable Bands.in_its_range Bands.is_unity Bands.is_passthrough Bands.worked Bands.taken Bands.clears is_rate set_found set_band set with_band band_at delay_at value_at whole absolute to_bits neg f32 f64 eq le lt
after_set name = set flat (bytes name) (record { 0 = one }) passthrough

unfoldable pub set_as : String → ℕ
unfolding after_set
set_as name = (after_set name).number

unfoldable pub band3_set : String → ℕ
unfolding after_set value_at band_at to_bits
band3_set name = to_bits binary32 (value_at (after_set name).state 3)

unfoldable pub p8 : Row
unfolding band read_as set_as band3_set
p8 = record {
  given = band "band_+3" ∷ read_as "band_+3" ∷ set_as "band_+3" ∷ band3_set "band_+3" ∷ read_as "band_16" ∷ set_as "band_16" ∷ read_as "band_" ∷ set_as "band_" ∷ [];
  said = 3 ∷ 0 ∷ 0 ∷ 0x3f80_0000 ∷ 2 ∷ 2 ∷ 1 ∷ 1 ∷ [];
}

-- ---- P9: the words of the samples that 0.5 and -1 are written as
unfoldable pub p9 : Row
unfolding word_of whole_size to_whole written f32 neg mul lt
p9 = record { given = word_of (written (f32 1 2)) ∷ word_of (written (neg one)) ∷ []; said = 16384 ∷ (0x1_0000 - 32768) ∷ [] }

-- ---- P10: the program's bytes
unfoldable pub p10 : Row
unfolding program program_gate make made_settings set_typed acceptable in_bounds settable allowed worked in_its_range with_setting is_rate is_smoothing whole Pass.next Pass.output words_of bytes_of state_after out_after sample_of word_of heard whole_size to_whole written next output aim level loud counter target state gain hold_samples gain_at followed toward f32 of_int to_unsigned neg mul sub div lt le eq fma absolute
p10 = record {
  given = program (0x00 ∷ 0x20 ∷ 0x00 ∷ 0x40 ∷ 0x00 ∷ 0x10 ∷ 0x00 ∷ 0x10 ∷ 0x00 ∷ 0x10 ∷ []);
  said = 0x00 ∷ 0x10 ∷ 0x00 ∷ 0x40 ∷ 0x00 ∷ 0x10 ∷ 0x00 ∷ 0x10 ∷ 0x00 ∷ 0x08 ∷ [];
}

unfoldable pub table : List Row
table = p1 ∷ p2 ∷ p3 ∷ p4 ∷ p5 ∷ p6 ∷ p7 ∷ p8 ∷ p9 ∷ p10 ∷ []

-- what the definitions give, and what the paper says, row by row
abbrev pub given : List (List ℕ)
given = map (λ (r : Row). r.given) table

abbrev pub said : List (List ℕ)
said = map (λ (r : Row). r.said) table
