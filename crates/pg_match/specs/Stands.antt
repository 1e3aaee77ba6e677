-- What the set of a place holds.
use Rattle.std.specs.Prelude.{ℕ, ◌+◌, ◌-◌, ◌<◌, ◌≤◌, List, length, max, Option, Some, None, slice_get}
use Rattle.pg_match.specs.Automata.{Nfa, Edge, Runs}
use Rattle.pg_pattern.specs.Bounds.{MayBegin, MayEnd}
use Rattle.pg_match.specs.Closures.{Leads}
use Rattle.pg_match.specs.Searches.{RunsFrom}

-- S holds the states at p of the runs that began at a place from `from` to p, and none of them is a match that ended
-- before p
pub record Stands (m : Nfa) (l : List ℕ) (from p : ℕ) (S : ℕ → Type 0) : Type 0 where
  pub sound : (q : ℕ) → S q
      → (s : ℕ) × (from ≤ s) × (s ≤ p) × MayBegin m.bounds l s × Leads m.states l m.start s q p
  pub complete : (s n j : ℕ) → from ≤ s → s ≤ p → MayBegin m.bounds l s → Runs m.states l n m.start s j → p ≤ j
      → (q : ℕ) × (k : ℕ) × S q × Runs m.states l k q p j
  pub closed : p < length l → (q r : ℕ) → S q → Edge (slice_get m.states q) l p r p → S r
  pub none : (i j : ℕ) → from ≤ i → i ≤ j → j < p
      → RunsFrom m.states l m.start (MayBegin m.bounds l) (MayEnd m.bounds l) i j → ⊥

-- from a place on the automaton runs along a span that begins and ends where it may
abbrev pub HasRun : Nfa → List ℕ → ℕ → Type 0
HasRun m l from =
    (i : ℕ) × (j : ℕ) × (from ≤ i) × (i ≤ j) × (j ≤ length l)
    × RunsFrom m.states l m.start (MayBegin m.bounds l) (MayEnd m.bounds l) i j

-- none of these spans begins before the other place
abbrev pub NoneBefore : Nfa → List ℕ → ℕ → ℕ → Type 0
NoneBefore m l from start =
    (i j : ℕ) → from ≤ i → i < start → i ≤ j → j ≤ length l
    → RunsFrom m.states l m.start (MayBegin m.bounds l) (MayEnd m.bounds l) i j → ⊥

-- where one of these spans begins, one ends within so many bytes
abbrev pub RunsEndWithin : Nfa → ℕ → Type 0
RunsEndWithin m bytes =
    (l : List ℕ) (i j : ℕ) → i ≤ j → j ≤ length l
    → RunsFrom m.states l m.start (MayBegin m.bounds l) (MayEnd m.bounds l) i j
    → (k : ℕ) × (i ≤ k) × (k ≤ i + bytes) × RunsFrom m.states l m.start (MayBegin m.bounds l) (MayEnd m.bounds l) i k

-- The place before which no hit begins, where none begins before `start` and none ends before another place: within the
-- reach of a hit's begin one ends.
abbrev pub latest_start : Option ℕ → ℕ → ℕ → ℕ
latest_start None start place = start
latest_start (Some reach) start place = max start (place - reach)
