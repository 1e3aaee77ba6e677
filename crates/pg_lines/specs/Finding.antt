-- What a search for lines with a hit needs, and what it finds.
use Rattle.std.specs.Prelude.{◌≡◌, ℕ, ◌≤◌, true, List, length, drop}
use Rattle.pg_match.specs.Machines.{Fits, Room}
use Rattle.pg_blocks.specs.Lines.{AreShort}
use Rattle.pg_selection.specs.Search.{SearchText, Pattern, AreTreesOf, search_of, terminator_of}
use Rattle.pg_selection.specs.Selection.{has_match}
use Rattle.pg_lines.specs.Queries.{Compiled}
use Rattle.pg_prefilter.specs.Strings.{IsBlockJudge}
use Rattle.pg_prefilter.specs.Candidates.{AreNeedles}
use Rattle.pg_prefilter.specs.declared.strings.BlockJudge.{BlockJudge}
use Rattle.pg_prefilter.specs.declared.needles.Needles.{Needles}

-- A block's bytes can be searched from a place on: what judges its lines and the needles are the query's, the scratch
-- is for its automaton, and no line is too long.
pub record CanSearch {A B : Type 0} (query : Compiled) (bytes : List ℕ) (block : BlockJudge A) (sought : Needles B)
    (scratch : Room) (at : ℕ) : Type 0 where
  pub within : at ≤ length bytes
  pub judge : IsBlockJudge query.text bytes block
  pub needles : AreNeedles query.text bytes at sought
  pub fits : Fits scratch query.machine
  pub short : AreShort (terminator_of query.text) (drop at bytes)

-- each line has a hit
abbrev pub HitsEachLine : SearchText → Type 0
HitsEachLine text = (trees : List Pattern) → AreTreesOf text trees → (line : List ℕ)
    → has_match (search_of text trees) line ≡ true
