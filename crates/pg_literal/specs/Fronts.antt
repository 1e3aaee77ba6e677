-- Rows of sets that the matches of a pattern begin with.
use Rattle.std.specs.Prelude.{◌≡◌, ◌≤◌, ◌+◌, ◌++◌, ℕ, List, length, false}
use Rattle.pg_bytes.specs.Sets.{Bytes}
use Rattle.pg_pattern.specs.Patterns.{Pattern}
use Rattle.pg_pattern.specs.Matches.{Match}
use Rattle.pg_literal.specs.Rows.{StandsAt}
use Rattle.pg_literal.specs.Known.{head_of}
use Rattle.pg_literal.specs.declared.known.MatchFacts.{MatchFacts}

-- matches of the pattern that lead to the rest begin at the whole, and are as long as what they add to it
pub record LeadsToRest (p : Pattern) (rest whole : List Bytes) : Type 0 where
  pub stands : (line : List ℕ) (i j : ℕ) → Match p line i j → StandsAt line rest j → StandsAt line whole i
  pub long : (line : List ℕ) (i j : ℕ) → Match p line i j → i + length whole ≤ j + length rest

-- each match of the pattern has a byte of each set of the row, and what follows it stands behind these
abbrev pub IsFrontRow : Pattern → List Bytes → Type 0
IsFrontRow p row = (rest : List Bytes) → LeadsToRest p rest (row ++ rest)

-- the other row has as many sets, and stands wherever the first one does
abbrev pub IsWider : List Bytes → List Bytes → Type 0
IsWider row wide = (length wide ≡ length row) × ((line : List ℕ) (i : ℕ) → StandsAt line row i → StandsAt line wide i)

-- a row in front of the head, and none of both rows is sure
pub record IsFronted {A : Type 0} (row : List Bytes) (rest whole : MatchFacts A) : Type 0 where
  pub head : head_of whole ≡ row ++ head_of rest
  pub best : whole.best ≡ rest.best
  pub unsure : whole.is_sure ≡ false
  pub best_unsure : whole.is_best_sure ≡ false
