-- The grammar's chunks that are skipped, by the walk's own tests.
-- Assumes nothing.
use Prim.Native.Nat.{ℕ}
use mathlib.Core.Path.{◌≡◌, sym, ◌∙◌, ap}
use mathlib.Core.Bool.{false, ◌&&◌, true≢false}
use mathlib.Core.List.{List}
use Rattle.std.proofs.lemmas.Bool.{false_from_ne_true}
use Rattle.std.proofs.Math.Bool.{and-true, and-false}
use Rattle.std.specs.Prelude.{Option, Some, None, is_none}
use Rattle.answer.specs.Names.{bytes, same}
use Rattle.answer.proofs.Names.{same_self, same-equal}
use Rattle.wave.specs.Grammar.{Chunk, Formed, Unknown, Skipped, Each, none, more}

-- what the walk passes where a rate is known, and where none is
pub record Passed (rate : Option ℕ) (c : Chunk) : Type 0 where
  pub formed : Formed c
  pub no_data : same c.name (bytes "data") ≡ false
  pub no_format : (same c.name (bytes "fmt ") && is_none rate) ≡ false

pub each : {P Q : Chunk → Type 0} → ((c : Chunk) → P c → Q c) → {cs : List Chunk} → Each P cs → Each Q cs
each f none = none
each f (more {c = c} p ps) = more (f c p) (each f ps)

module _ (a b : List ℕ) where
  unlike : (a ≡ b → ⊥) → same a b ≡ false
  unlike h = false_from_ne_true (same a b) (λ e. h (same-equal a b e))

  differ : same a b ≡ false → a ≡ b → ⊥
  differ f e = true≢false (sym (same_self b) ∙ ap (λ (l : List ℕ). same l b) (sym e) ∙ f)

module _ (c : Chunk) where
  pub unknown-passes : Unknown c → Passed None c
  unknown-passes u = record { formed = u.formed; no_data = unlike _ _ u.no_data; no_format = rw (unlike c.name (bytes "fmt ") u.no_format) }

  pub passed-unknown : Passed None c → Unknown c
  passed-unknown p = record { formed = p.formed; no_data = differ _ _ p.no_data; no_format = differ _ _ (sym (and-true _) ∙ p.no_format) }

  pub passed-skipped : (rate : Option ℕ) → Passed rate c → Skipped c
  passed-skipped rate p = record { formed = p.formed; no_data = differ _ _ p.no_data }

  pub skipped-passes : (rate : ℕ) → Skipped c → Passed (Some rate) c
  skipped-passes rate k =
      record {
        formed = k.formed;
        no_data = unlike _ _ k.no_data;
        no_format = and-false (same c.name (bytes "fmt "));
      }
