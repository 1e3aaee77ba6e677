-- The next line with a hit.
use Rattle.std.specs.Prelude.{ℕ, ◌<◌, ◌≤◌, false, List, length, drop}
use Rattle.pg_blocks.specs.declared.span.Span.{Span}
use Rattle.pg_selection.specs.Search.{SearchText, Search, Pattern, AreTreesOf, search_of, uninverted}
use Rattle.pg_selection.specs.Runs.{AllLines, IsNextRun}

-- the first selected line in bytes that stand from a place on: a run of one line
abbrev pub IsNextLine : Search → ℕ → List ℕ → Span → Type 0
IsNextLine q at bytes line = (first : ℕ) × IsNextRun q at 0 bytes (record { span = line; first = first; count = 1 })

-- the first line with a hit at or behind a place where a line starts, with its terminator
pub record IsNextHit (text : SearchText) (bytes : List ℕ) (at : ℕ) (line : Span) : Type 0 where
  pub within : (at ≤ line.start) × (line.start < line.end) × (line.end ≤ length bytes)
  pub first : (trees : List Pattern) → AreTreesOf text trees
      → IsNextLine (search_of (uninverted text) trees) at (drop at bytes) line

-- no line there has one
abbrev pub HasNoNextHit : SearchText → List ℕ → ℕ → Type 0
HasNoNextHit text bytes at = (trees : List Pattern) → AreTreesOf text trees
    → AllLines (search_of (uninverted text) trees) false (drop at bytes)
