-- Samples put behind a head that was put: both lie over what was there.
-- Assumes nothing.
use Prim.Native.Nat.{ℕ, ◌+◌, ◌-◌}
use native.Mathlib.Omega.{arith}
use mathlib.Core.Path.{◌≡◌, ◌∙◌, ap}
use mathlib.Core.List.{List, [], ◌++◌, append_assoc}
use lib.ListN.{length, take, drop, length-append, length-drop}
use lib.Seq.{take_at, drop_at, drop-drop}
use Rattle.std.proofs.lemmas.List.{take_rest, drop_all, append-nil}
use borrow.Rule.Slice.PartMut.{post_of, put_mid}
use Rattle.answer.specs.Buffers.{over}

pub behind : (h d out m x : List ℕ) → length h ≡ 44 → m ≡ over h out → x ≡ over d (take (length m - 44) (drop 44 m)) → put_mid 44 (length m - 44) m x ≡ over (h ++ d) out
behind h d out m x n e f =
    let k : m ≡ h ++ drop 44 out = rw n at e in
    let front : take 44 m ≡ h = ap (take 44) k ∙ take_at h (drop 44 out) 44 n in
    let rest : drop 44 m ≡ drop 44 out = ap (drop 44) k ∙ drop_at h (drop 44 out) 44 n in
    let post : post_of 44 (length m - 44) m ≡ [] = drop_all (length m - 44) (drop 44 m) (omega (arith, length-drop 44 m)) in
    let past : x ≡ d ++ drop (44 + length d) out = f ∙ ap (λ (l : List ℕ). d ++ drop (length d) l) (take_rest m 44 ∙ rest) ∙ ap (λ (l : List ℕ). d ++ l) (drop-drop (length d) 44 out) in
    let z : length (h ++ d) ≡ 44 + length d = length-append h d ∙ ap (λ (i : ℕ). i + length d) n in
    rw (front, post, past, z, append_assoc h d (drop (44 + length d) out), append-nil (d ++ drop (44 + length d) out))
