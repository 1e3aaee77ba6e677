-- What a search for a row of sets comes to.
use Rattle.std.specs.Prelude.{ℕ, ◌≡◌, ◌+◌, ◌<◌, ◌≤◌, List, length, false, IsTrue}
use Rattle.memchr.specs.Find.{NoneBefore, Nowhere}
use Rattle.pg_bytes.specs.Sets.{Bytes}
use Rattle.pg_literal.specs.Rows.{StandsAt}
use Rattle.pg_literal.specs.declared.row_finder.Skip.{Skip}
use Rattle.pg_literal.specs.declared.row_outcome.RowOutcome.{RowOutcome}
use Rattle.pg_literal.specs.declared.row_outcome.RowOutcome.TheVariants.{Found, NotFound, GaveUp}

-- the first place of some bytes at which the row stands, if there is one and the search wasn't given up
abbrev pub FindsRow : List ℕ → List Bytes → RowOutcome → Type 0
FindsRow bytes row (Found place) = NoneBefore (StandsAt bytes row) 0 (length bytes) place × StandsAt bytes row place
FindsRow bytes row NotFound = Nowhere (StandsAt bytes row) 0 (length bytes)
FindsRow bytes row GaveUp = Unit {0}

-- On from a place past others at none of which the row stands, to one at which it may stand, or else past some.
pub record PassesPlaces (bytes : List ℕ) (row : List Bytes) (at : ℕ) (skip : Skip) : Type 0 where
  pub within : at + skip.places ≤ length bytes
  pub candidate : IsTrue skip.is_candidate → at + skip.places < length bytes
  pub none : (k : ℕ) → k < skip.places → StandsAt bytes row (at + k) → ⊥
  pub some : skip.is_candidate ≡ false → 0 < skip.places
