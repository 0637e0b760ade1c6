-- The loop that runs a stage over a block: what holds after i samples holds at the start, is kept by a turn, and says at the end that the block is done. For any stage.
-- `Upto` is of the state and the outputs, `Counted` of the count beside them. Assumes nothing.
use mathlib.Core.Path.{◌≡◌, refl, sym, ◌∙◌}
use mathlib.Core.Bool.{Bool, true, false}
use mathlib.Core.List.{List, ◌++◌, append_assoc, append-nil}
use Prim.Native.Nat.{ℕ, ◌+◌, ◌≤◌, ◌<◌}
use native.Mathlib.Numerals.{add-one}
use native.Mathlib.Omega.{arith}
use lib.ListN.{length, take, drop, get_or, set, length-set, drop_of_length-le}
use lib.Seq.{drop-cons, take-suc-set, take_all}
use Rattle.fold.specs.Fold.{more, state_after, out_after, count_after}

module _ {S X Y : Type 0} (next : S → X → S) (out : S → X → Y) where
  -- after i samples of input the state is s and the first i places of output are written: what is left of input does the rest
  pub record Upto (s₀ : S) (input : List X) (output₀ : List Y) (s : S) (output : List Y) (i : ℕ) : Type 0 where
    pub within : i ≤ length input
    pub long : length output ≡ length output₀
    pub state : state_after next s (drop i input) ≡ state_after next s₀ input
    pub outs : take i output ++ out_after next out s (drop i input) ≡ out_after next out s₀ input

  pub start : (s : S) (input : List X) (output : List Y) → Upto s input output s output 0
  start s input output = record { within = omega arith; long = refl; state = refl; outs = refl }

  module _ {s₀ : S} {input : List X} {output₀ : List Y} {s : S} {output : List Y} {i : ℕ} (u : Upto s₀ input output₀ s output i) (same : length input ≡ length output₀) where
    pub onward : (d : X) (t : S) (y : Y) → i < length input → t ≡ next s (get_or input i d) → y ≡ out s (get_or input i d) → Upto s₀ input output₀ t (set output i y) (i + 1)
    unfolding state_after out_after
    onward d t y h et ey =
        let hd = drop-cons input i d h in
        let ho : i < length output = omega (arith, u.long) in
        record {
          within = omega arith;
          long = length-set output i y ∙ u.long;
          state = rw (et, add-one i) (rw hd at u.state);
          outs = rw (et, ey, add-one i, take-suc-set output i, append_assoc) (rw hd at u.outs);
        }

    pub ended : length input ≤ i → (s ≡ state_after next s₀ input) × (output ≡ out_after next out s₀ input)
    unfolding state_after out_after
    ended h =
        let hd = drop_of_length-le input h in
        let ho : length output ≤ i = omega (arith, u.long) in
        (rw hd at u.state, sym (take_all i output ho) ∙ sym (append-nil (take i output)) ∙ rw hd at u.outs)

-- ---- the count: one sample more, beside what is counted after it and beside a bound
pub more-add : (b : Bool) (n m : ℕ) → more b n + m ≡ n + more b m
more-add true n m = omega arith
more-add false n m = refl

pub more-le : (b : Bool) (n i : ℕ) → n ≤ i → more b n ≤ i + 1
more-le true n i h = omega arith
more-le false n i h = omega arith

-- the count after a branch on the test, from what is known in each arm
pub counts : {b : Bool} (n : ℕ) {m : ℕ} → b ≡ true → m ≡ n + 1 → m ≡ more b n
counts n e h = rw e (omega arith)

pub skips : {b : Bool} (n : ℕ) {m : ℕ} → b ≡ false → m ≡ n → m ≡ more b n
skips n e h = rw e h

module _ {S X : Type 0} (next : S → X → S) (test : S → X → Bool) where
  -- after i samples the state is s and n of them passed the test
  pub record Counted (s₀ : S) (input : List X) (s : S) (n i : ℕ) : Type 0 where
    pub few : n ≤ i
    pub count : n + count_after next test s (drop i input) ≡ count_after next test s₀ input

  pub start-count : (s : S) (input : List X) → Counted s input s 0 0
  start-count s input = record { few = omega arith; count = omega arith }

  module _ {s₀ : S} {input : List X} {s : S} {n i : ℕ} (u : Counted s₀ input s n i) where
    pub onward-count : (d : X) (t : S) {m : ℕ} → i < length input → t ≡ next s (get_or input i d) → m ≡ more (test s (get_or input i d)) n → Counted s₀ input t m (i + 1)
    unfolding count_after
    onward-count d t h et em =
        let hd = drop-cons input i d h in
        record {
          few = rw em (more-le (test s (get_or input i d)) n i u.few);
          count = rw em (more-add (test s (get_or input i d)) n (count_after next test t (drop (i + 1) input)) ∙ rw (et, add-one i) (rw hd at u.count));
        }

    pub ended-count : length input ≤ i → n ≡ count_after next test s₀ input
    unfolding count_after
    ended-count h = omega (arith, rw (drop_of_length-le input h) at u.count)
