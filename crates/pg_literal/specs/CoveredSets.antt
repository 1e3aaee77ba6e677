-- Sets of a row by which it is looked for.
use Rattle.std.specs.Prelude.{◌≡◌, ◌<◌, ℕ, true, List, length, get_or}
use Rattle.pg_bytes.specs.Sets.{Bytes, empty}
use Rattle.pg_literal.specs.Ranges.{covered}
use Rattle.pg_literal.specs.declared.covered.CoveredSet.{CoveredSet}
use Rattle.pg_literal.specs.declared.covered.OnlyByte.{OnlyByte}

-- a set of the row, by its place, with ranges that have each of its bytes
pub record IsCoveredSet (row : List Bytes) (set : CoveredSet) : Type 0 where
  pub within : set.offset < length row
  pub covers : (b : ℕ) → b < 256 → get_or row set.offset empty b ≡ true → covered set.cover b ≡ true

-- a place of the row whose set has no other byte
pub record IsOnlyByte (row : List Bytes) (only : OnlyByte) : Type 0 where
  pub within : only.offset < length row
  pub none : (b : ℕ) → get_or row only.offset empty b ≡ true → b ≡ only.byte
