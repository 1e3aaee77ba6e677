-- Which spans of a line count as matched, and which of them -o shows next (XCU grep; GNU grep -o; XBD 9.1).
use Rattle.std.specs.Prelude.{ℕ, ◌<◌, ◌≤◌, List, length, Contains}
use Rattle.pg_pattern.specs.Patterns.{Pattern}
use Rattle.pg_pattern.specs.Matches.{Match}
use Rattle.pg_pattern.specs.Bounds.{MayBegin, MayEnd}
use Rattle.pg_pattern.specs.declared.bounds.Bounds.{Bounds}

-- some pattern matches the span
abbrev pub Matched : List Pattern → List ℕ → ℕ → ℕ → Type 0
Matched patterns line i j = (p : Pattern) × Contains patterns p × Match p line i j

-- a span of the line that some pattern matches and that begins and ends where it may
pub record Hit (patterns : List Pattern) (bounds : Bounds) (line : List ℕ) (i j : ℕ) : Type 0 where
  pub ordered : i ≤ j
  pub within : j ≤ length line
  pub begins : MayBegin bounds line i
  pub ends : MayEnd bounds line j
  pub matched : Matched patterns line i j

-- some span is a hit: the line is selected (XCU grep, DESCRIPTION)
abbrev pub HasHit : List Pattern → Bounds → List ℕ → Type 0
HasHit patterns bounds line = (i : ℕ) × (j : ℕ) × Hit patterns bounds line i j

-- of the hits that aren't empty the one that starts first from a place on, and of these the longest
pub record IsNext (patterns : List Pattern) (bounds : Bounds) (line : List ℕ) (place i j : ℕ) : Type 0 where
  pub later : place ≤ i
  pub some : i < j
  pub hit : Hit patterns bounds line i j
  pub first : (i' j' : ℕ) → place ≤ i' → i' < i → i' < j' → Hit patterns bounds line i' j' → ⊥
  pub longest : (j' : ℕ) → Hit patterns bounds line i j' → j' ≤ j

-- no hit from a place on has a byte
abbrev pub HasNoNext : List Pattern → Bounds → List ℕ → ℕ → Type 0
HasNoNext patterns bounds line place = (i j : ℕ) → place ≤ i → i < j → Hit patterns bounds line i j → ⊥
