-- Automata as plain data, and what they do.
use Rattle.std.specs.Prelude.{◌≡◌, ℕ, zero, suc, ◌+◌, ◌<◌, true, ◌⊎◌, Bool, List}
use Rattle.std.specs.Prelude.{length, Option, Some, None, All, slice_get}
use Rattle.pg_bytes.specs.ByteSets.{bytes}
use Rattle.pg_pattern.specs.declared.bounds.Bounds.{Bounds}
use Rattle.pg_match.specs.declared.state.State.{State}
use Rattle.pg_match.specs.declared.state.State.TheVariants.{Fail, Accept, Jump, Read, AtBegin, AtEnd, Split}

-- the states, the one where each run starts, where a match may begin and end, and whether there is a pattern at all
pub record Nfa : Type 0 where
  pub states : List State
  pub start : ℕ
  pub bounds : Bounds
  pub some : Bool

-- one edge on a line, from a state at one place to another state at the same place or, past one byte, at the next
abbrev pub Edge : Option State → List ℕ → ℕ → ℕ → ℕ → Type 0
Edge None line i q j = ⊥
Edge (Some Fail) line i q j = ⊥
Edge (Some Accept) line i q j = ⊥
Edge (Some (Jump x)) line i q j = (q ≡ x) × (j ≡ i)
Edge (Some (Read s x)) line i q j = (b : ℕ) × (slice_get line i ≡ Some b) × (bytes s b ≡ true) × (q ≡ x) × (j ≡ i + 1)
Edge (Some (AtBegin x)) line i q j = (i ≡ 0) × (q ≡ x) × (j ≡ i)
Edge (Some (AtEnd x)) line i q j = (i ≡ length line) × (q ≡ x) × (j ≡ i)
Edge (Some (Split x y)) line i q j = ((q ≡ x) ⊎ (q ≡ y)) × (j ≡ i)

-- so many edges lead from a state at one place to `Accept` at another
abbrev pub Runs : List State → List ℕ → ℕ → ℕ → ℕ → ℕ → Type 0
Runs t line zero q i j = (slice_get t q ≡ Some Accept) × (i ≡ j)
Runs t line (suc n) q i j = (r : ℕ) × (k : ℕ) × Edge (slice_get t q) line i r k × Runs t line n r k j

-- the states that a state leads to are below the bound
abbrev pub target_below : ℕ → State → Type 0
target_below n Fail = Unit {0}
target_below n Accept = Unit {0}
target_below n (Jump x) = x < n
target_below n (Read s x) = x < n
target_below n (AtBegin x) = x < n
target_below n (AtEnd x) = x < n
target_below n (Split x y) = (x < n) × (y < n)

-- no state leads out of the table
abbrev pub IsTidy : List State → Type 0
IsTidy t = All (target_below (length t)) t

-- a table that can be run, with `Accept` as its state 0 alone
pub record IsRunnable (m : Nfa) : Type 0 where
  pub tidy : IsTidy m.states
  pub start : m.start < length m.states
  pub accept : slice_get m.states 0 ≡ Some Accept
  pub only : (q : ℕ) → slice_get m.states q ≡ Some Accept → q ≡ 0
