-- Expressions whose matches stand at the line's end alone, and are one byte of each of some sets.
use Rattle.std.specs.Prelude.{◌≡◌, ◌↔◌, ◌<◌, ◌≤◌, ℕ, ◌+◌, List, length}
use Rattle.pg_bytes.specs.Sets.{Bytes}
use Rattle.pg_pattern.specs.Patterns.{Pattern}
use Rattle.pg_pattern.specs.Matches.{Match}
use Rattle.pg_pattern.specs.Hits.{Hit}
use Rattle.pg_pattern.specs.declared.bounds.Bounds.{Bounds}
use Rattle.pg_literal.specs.Rows.{StandsAt, row_of}
use Rattle.pg_literal.specs.declared.suffix.LineSuffix.{LineSuffix}

-- within a line, the pattern matches one byte of each set, one behind the other
pub record IsExactRow (p : Pattern) (row : List Bytes) : Type 0 where
  pub some : 0 < length row
  pub spans : (line : List ℕ) (i j : ℕ) → j ≤ length line
      → Match p line i j ↔ (StandsAt line row i × (i + length row ≡ j))

-- the row stands from a place on, and the line ends behind it
abbrev pub IsSuffixAt : List ℕ → List Bytes → ℕ → Type 0
IsSuffixAt line row i = StandsAt line row i × (i + length row ≡ length line)

-- the hits are the places where the row stands and the line ends behind it; the row isn't empty
pub record IsSuffix (patterns : List Pattern) (bounds : Bounds) (row : List Bytes) : Type 0 where
  pub some : 0 < length row
  pub hits : (line : List ℕ) (i j : ℕ) → Hit patterns bounds line i j ↔ (IsSuffixAt line row i × (j ≡ length line))

-- the sets of a suffix, forwards
abbrev pub suffix_row : {A : Type 0} → LineSuffix A → List Bytes
suffix_row suffix = row_of suffix.sets.items
