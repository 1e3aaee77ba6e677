-- Rows of sets of which each line with a hit has a byte each, one behind the other.
use Rattle.std.specs.Prelude.{◌≡◌, ◌<◌, ◌≤◌, ◌==◌, ◌&&◌, not, ℕ, true, List, [], ◌∷◌, length}
use Rattle.std.specs.List.{All, Contains}
use Rattle.pg_bytes.specs.Sets.{Bytes}
use Rattle.pg_pattern.specs.Patterns.{Pattern}
use Rattle.pg_pattern.specs.Matches.{Match}
use Rattle.pg_pattern.specs.Hits.{HasHit}
use Rattle.pg_pattern.specs.declared.bounds.Bounds.{Bounds}
use Rattle.pg_pattern.specs.declared.bounds.Bounds.TheVariants.{Any}
use Rattle.pg_literal.specs.Rows.{StandsAt}

-- the set without a byte
abbrev pub without : ℕ → Bytes → Bytes
without b set c = not (c == b) && set c

-- where the pattern matches, the row stands somewhere in the line
abbrev pub NeedsRow : Pattern → List Bytes → Type 0
NeedsRow p row = (line : List ℕ) (i j : ℕ) → j ≤ length line → Match p line i j → (k : ℕ) × StandsAt line row k

-- where the row stands, some span of the line is matched
abbrev pub IsSureRow : Pattern → List Bytes → Type 0
IsSureRow p row = (line : List ℕ) (i : ℕ) → StandsAt line row i → HasHit (p ∷ []) Any line

-- each line in which the row stands has a hit
abbrev pub IsEnoughRow : List Pattern → Bounds → List Bytes → Type 0
IsEnoughRow patterns bounds row =
    (line : List ℕ) (i : ℕ) → StandsAt line row i → HasHit patterns bounds line

-- The row stands in each line with a hit. It isn't empty, and no set of it has the byte that ends lines.
pub record IsNeeded (patterns : List Pattern) (bounds : Bounds) (end : ℕ) (row : List Bytes) : Type 0 where
  pub some : 0 < length row
  pub within : All (λ set. set end ≡ true → ⊥) row
  pub stands : (line : List ℕ) → (Contains line end → ⊥) → HasHit patterns bounds line
      → (i : ℕ) × StandsAt line row i
