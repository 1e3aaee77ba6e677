-- Which lines a query selects, and the parts of them that -o shows (XCU grep, DESCRIPTION, -v; GNU grep, -o).
use Rattle.std.specs.Prelude.{ℕ, Bool, not, if◌then◌else◌, List}
use Rattle.std.specs.Bool.{MatchBool, Decides}
use Rattle.pg_pattern.specs.Hits.{HasHit as PatternsHaveHit}
use Rattle.pg_pattern.specs.Tests.{has_hit as patterns_have_hit}
use Rattle.pg_pattern.specs.Parts.{parts as parts_of_patterns}
use Rattle.pg_selection.specs.Search.{Search, bounds_of}

-- some span of the line is matched
abbrev pub HasMatch : Search → List ℕ → Type 0
HasMatch q line = PatternsHaveHit q.trees (bounds_of q.text) line

-- some span is matched; with -v none is
abbrev pub Selected : Search → List ℕ → Type 0
Selected q line = MatchBool q.text.invert (HasMatch q line → ⊥) (HasMatch q line)

-- whether some span of the line is matched
abbrev pub has_match : Search → List ℕ → Bool
has_match q line = patterns_have_hit q.trees (bounds_of q.text) line

-- whether the line is selected
abbrev pub selects : Search → List ℕ → Bool
selects q line = if q.text.invert then not (has_match q line) else has_match q line

-- the matched parts of a line, each from one place up to another
abbrev pub parts_of_line : Search → List ℕ → List (ℕ × ℕ)
parts_of_line q line = parts_of_patterns q.trees (bounds_of q.text) line

-- the test tells whether the line is selected
abbrev pub SelectsIsSelected : Search → List ℕ → Type 0
SelectsIsSelected q line = Decides (selects q line) (Selected q line)
