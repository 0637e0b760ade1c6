-- What a call tells its host, in document 01's numbers, whatever the stage. Definitions only.
-- Assumes nothing.
use Rattle.std.specs.Prelude.{◌≡◌, ℕ, Bool, cond, eqb, Float, Result, Ok, Err, ⊤}
use Rattle.answer.specs.Figures.{nought}
use Rattle.answer.specs.Refusals as Refusals
use Rattle.answer.specs.declared.Refusal.{Refusal}

-- the state after the call, the answer's number, its place, the count of samples aimed open, the value read or stepped, of a hold that was set its samples and the word of their truncation, and of a gate's block the quiet count
pub record Told (S : Type 0) : Type 0 where
  pub state : S
  pub number : ℕ
  pub place : ℕ
  pub count : ℕ
  pub value : Float
  pub samples : ℕ
  pub word : ℕ
  pub quiet : ℕ

module _ {S : Type 0} (s : S) where
  -- a refusal leaves s as it was; its open count is 0, its value +0, and it has no word and no quiet count
  abbrev pub refused : Refusal → Told S
  refused r = record { state = s; number = Refusals.number r; place = Refusals.place r; count = 0; value = nought; samples = 0; word = 0; quiet = 0 }

  abbrev pub done_with : ℕ → Float → Told S
  done_with n x = record { state = s; number = 0; place = 0; count = n; value = x; samples = 0; word = 0; quiet = 0 }

  abbrev pub done : Told S
  done = done_with 0 nought

  -- a hold set: its samples, and the number of their truncation's word
  abbrev pub done_hold : ℕ → ℕ → Told S
  done_hold n w = record { state = s; number = 0; place = 0; count = 0; value = nought; samples = n; word = w; quiet = 0 }

  -- a gate's block: how many of its samples were aimed open, and the quiet count after the last
  abbrev pub done_passed : ℕ → ℕ → Told S
  done_passed n q = record { state = s; number = 0; place = 0; count = n; value = nought; samples = 0; word = 0; quiet = q }

  -- what an answer tells, s being the state after the call: of making and reset, and of a setting and a block but the gate's
  abbrev pub told : Result ⊤ Refusal → Told S
  told (Ok _) = done
  told (Err r) = refused r

  -- of making, s being what a refused making gives
  abbrev pub told_made : Result S Refusal → Told S
  told_made (Ok made) = record { state = made; number = 0; place = 0; count = 0; value = nought; samples = 0; word = 0; quiet = 0 }
  told_made (Err r) = refused r

  -- of reading, and of a lone step
  abbrev pub told_read : Result Float Refusal → Told S
  told_read (Ok value) = done_with 0 value
  told_read (Err r) = refused r

-- a test, the answer where it fails, and what is done where it holds
abbrev pub unless : {A : Type 0} → Bool → A → A → A
unless test otherwise rest = cond test rest otherwise

-- a where the call was done, b where it was refused
abbrev pub where_done : {S A : Type 0} → Told S → A → A → A
where_done t a b = cond (eqb t.number 0) a b

-- a call on s that is refused leaves s
pub record Unchanged {S : Type 0} (s : S) (t : Told S) : Type 0 where
  pub kept : (t.number ≡ 0 → ⊥) → t.state ≡ s
