-- A block that is done gives the turn that it tells of, whatever its buffer held before.
-- Assumes nothing.
use Rattle.std.proofs.Common.{◌≡◌, ℕ, ◌≤◌, Bool, true, false, List, ◌++◌, length, take, drop, refl, ap, ◌∙◌, eq-eqb}
use Rattle.answer.specs.Told.{Told, unless}
use Rattle.noise_gate.specs.Bounds.{acceptable}
use Rattle.noise_gate.specs.declared.Gate.{Gate}
use Rattle.pcm_gate.specs.Pass.{pass}
use Rattle.pcm_gate.specs.Turns.{turned}
use Rattle.gate.specs.Runs.{run_of, turn_of, Done, Over}
use Rattle.gate.specs.declared.Turn.{Turn}

-- what is told of a block doesn't hang on what its buffer held
module _ (g : Gate) (b out : List ℕ) (same : length b ≡ length out) where
  told_same : (pass g b out).0 ≡ (pass g b b).0
  unfolding pass
  told_same = rw (eq-eqb (length b) (length out) same, eq-eqb (length b) (length b) refl) (either (acceptable g) _ _ _ _ _ _)
    where
      either : (h : Bool) (x y : Told Gate) (p q r s : List ℕ) → (unless {A = Told Gate × List ℕ} h (y, q) (x, p)).0 ≡ (unless {A = Told Gate × List ℕ} h (y, s) (x, r)).0
      either true x y p q r s = refl
      either false x y p q r s = refl

pub turn-is : (t r : Turn) (b out : List ℕ) → length b ≡ length out → Done t b out r → r ≡ turn_of (turned (run_of t) b)
unfolding turned
turn-is t r b out same d = d.turn ∙ rw (told_same t.gate b out same, same)

-- ---- over two buffers
module _ (t r : Turn) (input before : List ℕ) (n : ℕ) where
  pub over : (new : List ℕ) → n ≤ length input → length (take n input) ≡ length (take n before)
      → Done t (take n input) (take n before) r
      → new ≡ (pass t.gate (take n input) (take n before)).1
      → Over t input before (new ++ drop n before) (r, n)
  over new most same d given = record {
    most = most;
    turn = turn-is t r (take n input) (take n before) same d;
    given = ap (λ (l : List ℕ). l ++ drop n before) given;
  }
