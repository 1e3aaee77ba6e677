-- What a machine was built from.
use Rattle.std.specs.Prelude.{◌≡◌, ℕ, ◌<◌, ◌⊎◌, ◌↔◌, Bool, IsTrue, List, [], length, Option, Some, None}
use Rattle.pg_pattern.specs.Patterns.{Pattern}
use Rattle.pg_pattern.specs.Hits.{HasHit, Matched}
use Rattle.pg_match.specs.Sizes.{list_size}
use Rattle.pg_match.specs.Automata.{Nfa, Runs}
use Rattle.pg_pattern.specs.declared.bounds.Bounds.{Bounds}

-- The automaton runs along the spans that some pattern matches, and along no others. Without any pattern it may run
-- along empty spans.
pub record Agrees (m : Nfa) (patterns : List Pattern) : Type 0 where
  pub sound : (line : List ℕ) (n i j : ℕ) → Runs m.states line n m.start i j → (i < j) ⊎ IsTrue m.some
      → Matched patterns line i j
  pub complete : (line : List ℕ) (i j : ℕ) → Matched patterns line i j
      → IsTrue m.some × ((n : ℕ) × Runs m.states line n m.start i j)

-- the machine has these patterns and bounds, and as many states as the patterns' sizes ask for
pub record IsMachineOf (m : Nfa) (patterns : List Pattern) (bounds : Bounds) : Type 0 where
  pub agrees : Agrees m patterns
  pub same_bounds : m.bounds ≡ bounds
  pub size : length m.states ≡ list_size patterns

-- some patterns and bounds are those of the machine
abbrev pub IsOfSome : Nfa → Type 0
IsOfSome m = (patterns : List Pattern) × (bounds : Bounds) × IsMachineOf m patterns bounds

-- what a scratch was made for, how often the last search added a state to the set of a place, and how often all
-- searches did
pub record Room : Type 0 where
  pub machine : Nfa
  pub visits : ℕ
  pub added : ℕ

-- the scratch was made for this very machine
abbrev pub Fits : Room → Nfa → Type 0
Fits room m = room.machine ≡ m

-- whether an empty line has a hit, if that is known
abbrev pub TellsEmpty : Nfa → Option Bool → Type 0
TellsEmpty m None = Unit {0}
TellsEmpty m (Some answer) =
    (patterns : List Pattern) → Agrees m patterns → IsTrue answer ↔ HasHit patterns m.bounds []
