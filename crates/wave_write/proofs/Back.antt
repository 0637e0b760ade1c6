-- What was written is a recording of the grammar, whatever lies behind it: so it is read, with the same rate and samples.
-- Assumes nothing.
use Prim.Native.Nat.{ℕ, ◌+◌, ◌%◌, ◌≤◌, ◌<◌, ◌^◌}
use native.Mathlib.Omega.{arith}
use mathlib.Core.Path.{◌≡◌, refl}
use mathlib.Core.List.{List, [], ◌++◌, append_assoc}
use lib.ListN.{length, take, drop, length-append}
use lib.Seq.{take-append_seam}
use Rattle.answer.specs.Figures.{lowest_rate, highest_rate}
use Rattle.wave.specs.Grammar.{none, IsWave}
use Rattle.wave.specs.Recordings.{Reads}
use Rattle.wave.proofs.AllRead.{all_read}
use Rattle.wave_write.specs.Writing.{riff_for, head, file}

pub long : (rate : ℕ) (samples : List ℕ) → length (file rate samples) ≡ 44 + length samples
long rate samples = length-append (head rate (length samples)) samples

module _ (rate : ℕ) (samples rest : List ℕ) where
  formed : lowest_rate ≤ rate → rate ≤ highest_rate → length samples % 2 ≡ 0 → riff_for (length samples) < 2 ^ 32 → IsWave (file rate samples ++ rest) rate 44 (length samples)
  formed lowest highest even short = record {
    riff = riff_for (length samples);
    before = [];
    between = [];
    rest = samples ++ rest;
    is = append_assoc (head rate (length samples)) samples rest;
    at = refl;
    first = none;
    later = none;
    lowest = lowest;
    highest = highest;
    fits = omega (arith, short);
    even = even;
    in_buffer = omega (arith, length-append samples rest);
    in_riff = omega arith;
  }

  pub read_back : lowest_rate ≤ rate → rate ≤ highest_rate → length samples % 2 ≡ 0 → riff_for (length samples) < 2 ^ 32 → Reads (file rate samples ++ rest) rate 44 (length samples)
  read_back lowest highest even short = all_read (file rate samples ++ rest) (formed lowest highest even short)

  pub samples-back : take (length samples) (drop 44 (file rate samples ++ rest)) ≡ samples
  samples-back = take-append_seam samples rest
