-- A block's turn carries the input's bytes to the output.
-- Assumes nothing.
use Rattle.std.proofs.Common.{◌≡◌, ℕ, ◌≤◌, ◌<◌, List, Option, length, take, subst, arith, length-take}
use Rattle.std.specs.Io.KnownBytes.{Consumes, Appends, IsAtEnd}
use Rattle.pcm_gate.specs.Pass.{pass}
use Rattle.gate.specs.Carried.{Carried, whole_samples}
use Rattle.gate.specs.Runs.{Done}
use Rattle.gate.specs.declared.Turn.{Turn}
use Rattle.gate.proofs.Turns.{turn-is}
use Rattle.gate.proofs.Whole.{whole_given}

-- ---- a block of n bytes, done and written
module _ (t r : Turn) (n : ℕ) (read before new : List ℕ) (left rest held now : Option (List ℕ)) where
  pub carried : n ≤ length read → length (take n read) ≡ length (take n before) → length new ≡ length (take n before)
      → Done t (take n read) (take n before) r
      → new ≡ (pass t.gate (take n read) (take n before)).1
      → Consumes left rest (take n read) → (n < length read → IsAtEnd rest) → Appends held now (whole_samples new)
      → Carried t (length read) left rest held now (r, n)
  carried most same long d is taken end added = record {
    block = take n read;
    long = simp length-take (omega (arith, most));
    most = most;
    turn = turn-is t r (take n read) (take n before) same d;
    taken = taken;
    end = end;
    added = subst (Appends held now) (whole_given t (take n read) (take n before) new same long is d.number) added;
  }
