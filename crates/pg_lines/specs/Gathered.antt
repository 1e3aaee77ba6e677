-- What a search has found in a block so far.
use Rattle.std.specs.Prelude.{◌≡◌, ◌+◌, ◌⊎◌, ℕ, true, List, [], ◌++◌, length}
use Rattle.pg_blocks.specs.Lines.{lines, AreWhole}
use Rattle.pg_selection.specs.Search.{Search, terminator}
use Rattle.pg_selection.specs.Runs.{AllLines, AreRuns}
use Rattle.pg_selection.specs.declared.run.Run.{Run}

-- The runs so far and an open one behind them: whatever runs follow the open one's start, together they are all runs.
pub record IsGathered (q : Search) (bytes : List ℕ) (runs : List Run) (run : Run) : Type 0 where
  pub front : List ℕ
  pub text : List ℕ
  pub rest : List ℕ
  pub joins : bytes ≡ (front ++ text) ++ rest
  pub start : run.span.start ≡ length front
  pub stop : run.span.end ≡ length front + length text
  pub front_whole : AreWhole (terminator q) front
  pub whole : AreWhole (terminator q) text ⊎ (rest ≡ [])
  pub selected : AllLines q true text
  pub first : run.first ≡ length (lines (terminator q) front)
  pub count : run.count ≡ length (lines (terminator q) text)
  pub known : (more : List Run) → AreRuns q run.span.start run.first (text ++ rest) more
      → AreRuns q 0 0 bytes (runs ++ more)
