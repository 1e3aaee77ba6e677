-- A result as plain data. The query and the block determine which lines are selected.
use Rattle.std.specs.Prelude.{◌≡◌, ℕ, List, length}
use Rattle.pg_blocks.specs.Lines.{lines}
use Rattle.pg_selection.specs.Search.{SearchText, terminator_of}
use Rattle.pg_selection.specs.Runs.{HasRuns}
use Rattle.pg_selection.specs.BlockParts.{HasParts}
use Rattle.pg_selection.specs.declared.run.Found.{Found}
use Rattle.pg_blocks.specs.Blocks.{BlockData}

-- which query was asked of which block
pub record SearchedBlock : Type 0 where
  pub query : SearchText
  pub block : BlockData

-- the lines of the block
abbrev pub lines_of : SearchedBlock → List (List ℕ)
lines_of r = lines (terminator_of r.query) r.block.bytes

-- all that a search has to find in some bytes: the selected lines, their parts where the text asks for them, and
-- how many lines there are
pub record IsFound {A : Type 0} (text : SearchText) (bytes : List ℕ) (found : Found A) : Type 0 where
  pub runs : HasRuns text bytes found.runs.items
  pub parts : HasParts text bytes found.parts.items
  pub lines : found.lines ≡ length (lines (terminator_of text) bytes)
