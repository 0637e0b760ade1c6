-- A run carries the input's bytes to the output: at its beginning none, and by each turn its block's.
-- Assumes nothing.
use Rattle.std.proofs.Common.{◌≡◌, ◌+◌, ◌<◌, ◌≤◌, length, List, [], ◌∷◌, ◌++◌, ℕ, Option, append_assoc, append-nil, sym, refl, ap, subst, ◌∙◌, arith, length-append}
use Rattle.std.proofs.KnownBytes.{Consumes-nil, Consumes-trans, Appends-nil, Appends-trans}
use Rattle.std.specs.Io.KnownBytes.{Consumes, Appends}
use Rattle.fold.specs.Fold.{state_after}
use Rattle.fold.proofs.Parts.{state-parts}
use Rattle.noise_gate.specs.declared.Gate.{Gate}
use Rattle.pcm_gate.specs.Program.{program_gate}
use Rattle.pcm_gate.specs.Turns.{Run, begun, turned, given, joined, after, given_all, block_bytes, Full}
use Rattle.gate.specs.Carried.{Carried, CarriedThrough, CarriedToEnd}
use Rattle.gate.specs.Runs.{run_of}
use Rattle.gate.specs.declared.Turn.{Turn}

-- ---- blocks and a last one: their bytes, and what they give
joined-last : (blocks : List (List ℕ)) (last : List ℕ) → joined blocks last ≡ joined blocks [] ++ last
joined-last [] last = refl
joined-last (b ∷ blocks) last = ap (λ (l : List ℕ). b ++ l) (joined-last blocks last) ∙ sym (append_assoc b (joined blocks []) last)

joined-more : (blocks : List (List ℕ)) (b : List ℕ) → joined (blocks ++ (b ∷ [])) [] ≡ joined blocks b
joined-more [] b = append-nil b
joined-more (a ∷ blocks) b = ap (λ (l : List ℕ). a ++ l) (joined-more blocks b)

given-last : (t : Run) (blocks : List (List ℕ)) (last : List ℕ) → given_all t blocks last ≡ given_all t blocks [] ++ given (after t blocks) last
unfolding state_after
given-last t [] last = refl
given-last t (b ∷ blocks) last =
    ap (λ (l : List ℕ). given t b ++ l) (given-last (turned t b) blocks last) ∙ sym (append_assoc (given t b) (given_all (turned t b) blocks []) (given (after (turned t b) blocks) last))

given-more : (t : Run) (blocks : List (List ℕ)) (b : List ℕ) → given_all t (blocks ++ (b ∷ [])) [] ≡ given_all t blocks b
given-more t [] b = append-nil (given t b)
given-more t (a ∷ blocks) b = ap (λ (l : List ℕ). given t a ++ l) (given-more (turned t a) blocks b)

full-more : (blocks : List (List ℕ)) (b : List ℕ) → Full blocks → length b ≡ block_bytes → Full (blocks ++ (b ∷ []))
full-more [] b f h = (h, tt)
full-more (a ∷ blocks) b f h = (f.0, full-more blocks b f.1 h)

-- ---- a run begins
pub begins : (left held : Option (List ℕ)) (g : Gate) → g ≡ program_gate → CarriedThrough left left held held (record { gate = g; samples = 0; aimed = 0 }) 0
unfolding state_after
begins left held g h = record {
  blocks = [];
  full = tt;
  many = refl;
  run = ap (λ (x : Gate). record { gate = x; samples = 0; aimed = 0 }) h;
  taken = Consumes-nil left;
  added = Appends-nil held;
}

-- ---- it goes on by a turn
module _ (left mid rest held then now : Option (List ℕ)) (u v : Turn) (turns n : ℕ) (a : CarriedThrough left mid held then u turns) (c : Carried u block_bytes mid rest then now (v, n)) where
  run-on : run_of v ≡ turned (after begun a.blocks) c.block
  run-on = ap run_of c.turn ∙ ap (λ (t : Run). turned t c.block) a.run

  taken-on : Consumes left rest (joined a.blocks c.block)
  taken-on = subst (Consumes left rest) (sym (joined-last a.blocks c.block)) (Consumes-trans left mid rest (joined a.blocks []) c.block a.taken c.taken)

  added-on : Appends held now (given_all begun a.blocks c.block)
  added-on =
      let given-is : given (run_of u) c.block ≡ given (after begun a.blocks) c.block = ap (λ (t : Run). given t c.block) a.run in
      subst (Appends held now) (sym (given-last begun a.blocks c.block)) (Appends-trans held then now (given_all begun a.blocks []) (given (after begun a.blocks) c.block) a.added (subst (Appends then now) given-is c.added))

  pub goes : block_bytes ≤ n → CarriedThrough left rest held now v (turns + 1)
  unfolding state_after
  goes whole = record {
    blocks = a.blocks ++ (c.block ∷ []);
    full = full-more a.blocks c.block a.full (omega (arith, whole, c.long, c.most));
    many = omega (arith, a.many, length-append a.blocks (c.block ∷ []));
    run = run-on ∙ sym (state-parts turned begun a.blocks (c.block ∷ []));
    taken = subst (Consumes left rest) (sym (joined-more a.blocks c.block)) taken-on;
    added = subst (Appends held now) (sym (given-more begun a.blocks c.block)) added-on;
  }

  pub ends : n < block_bytes → CarriedToEnd left rest held now v
  ends part = record { blocks = a.blocks; full = a.full; last = c.block; run = run-on; taken = taken-on; end = c.end part; added = added-on }
