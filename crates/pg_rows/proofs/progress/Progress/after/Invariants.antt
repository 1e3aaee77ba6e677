use Rattle.std.proofs.Common.{◌≡◌, ℕ, ◌+◌, ◌≤◌, List, length, drop}
use Rattle.pg_blocks.specs.Lines.{lines}
use Rattle.pg_selection.specs.Search.{Search, terminator}
use Rattle.pg_rows.specs.Trail.{Trail}
use Rattle.pg_selection.specs.Runs.{AreRuns}
use Rattle.pg_rows.specs.Progress.{IsOfTrail}
use Rattle.pg_rows.proofs.BlockLemmas.{IsReached}
use Rattle.pg_rows.proofs.progress.Progress.after.Given as goal

abbrev pub invariant-loop-run : goal.invariant-loop-run
invariant-loop-run l = record {
  within : l.left ≤ l.lines;
  number : l.progress.number + l.left ≡ l.fn.self.number + l.lines;
  reached : (q : Search) (t : Trail) (bytes : List ℕ) → AreRuns q 0 0 bytes l.runs
      → l.lines ≡ length (lines (terminator q) bytes) → IsOfTrail l.fn.self l.format t
      → IsReached q l.format t (lines (terminator q) bytes) l.left (drop l.run-index l.runs) l.progress;
}
