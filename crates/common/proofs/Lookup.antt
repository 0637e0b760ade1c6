-- What a lookup finds at a place of a table, whatever it gives past the end.
-- Assumes nothing.
use mathlib.Core.Path.{◌≡◌, refl}
use mathlib.Core.List.{List, [], ◌∷◌, map}
use Prim.Native.Nat.{ℕ, zero, suc, ◌<◌}
use native.Mathlib.Nat.{le_of_suc-le-suc, not-suc-le-zero}
use lib.ListN.{length, get_or}

pub found : {A B : Type 0} (f : A → B) (l : List A) (n : ℕ) (d : A) (e : B) → n < length l → f (get_or l n d) ≡ get_or (map f l) n e
found f [] n d e h = absurd (not-suc-le-zero h)
found f (x ∷ l) zero d e h = refl
found f (x ∷ l) (suc n) d e h = found f l n d e (le_of_suc-le-suc h)
