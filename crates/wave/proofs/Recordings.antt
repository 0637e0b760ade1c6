-- The laws of specs/Recordings.antt, each from the file that proves it.
-- Assumes nothing.
use Prim.Native.Nat.{ℕ, suc, ◌+◌, ◌-◌, ◌<◌}
use native.Mathlib.Omega.{arith}
use mathlib.Core.Path.{◌≡◌}
use mathlib.Core.List.{List}
use lib.ListN.{length}
use Rattle.std.specs.Prelude.{None}
use Rattle.wave.specs.Reading.{chunks, end_within, walk}
use Rattle.wave.specs.Recordings.{Tells, Inside, Lies, Exactly, OnlyHeads, Lasts}
use Rattle.wave.proofs.Budget.{enough}
use Rattle.wave.proofs.Refused.{refused-zeros, told-once}
use Rattle.wave.proofs.Inside.{Bounds, inside, accepted}
use Rattle.wave.proofs.AllRead.{all_read}
use Rattle.wave.proofs.NothingElse.{head-before, nothing_else}
use Rattle.wave.proofs.Heads.{any_samples, any_rest}
use Rattle.wave.proofs.Rates.{stages-accept, comes_back}

pub tells : Tells
tells = record { zeros = λ s. (refused-zeros s).zeros; once = told-once }

bounded : {s : List ℕ} {rate place size : ℕ} → Bounds s rate place size → Inside s rate place size
bounded b = record {
  in_buffer = b.in_buffer;
  in_riff = b.in_riff;
  behind_heads = b.behind_heads;
  even_place = b.even_place;
  even_size = b.even_size;
  lowest = b.lowest;
  highest = b.highest;
}

pub lies : Lies
lies = record {
  inside = λ s rate place size h. bounded (inside s h);
  head = λ s rate place size b h. head-before s b h;
  accepted = λ s rate place size h. stages-accept rate (accepted s h);
  exact = λ s rate place size h. comes_back rate (accepted s h);
}

pub exactly : Exactly
exactly = record { all = λ s rate place size w. all_read s w; nothing_else = λ s rate place size b h. nothing_else s b h }

pub only-heads : OnlyHeads
only-heads = record { any_samples = λ s other rate place size h n. any_samples s other h n; any_rest = λ s more k rate place size h l. any_rest s k more h l }

longer : (s : List ℕ) (limit more : ℕ) → chunks s (end_within s limit) (suc (length s) + more) 12 None ≡ walk s limit
unfolding walk
longer s limit more =
    let end = end_within s limit in
    let a : end - 12 < suc (length s) + more = omega arith in
    let b : end - 12 < suc (length s) = omega arith in
    enough s end (suc (length s) + more) (suc (length s)) 12 None a b

pub lasts : Lasts
lasts = record { longer = longer }
