use Rattle.std.proofs.Common.{◌≡◌, ℕ, ◌-◌, List, drop}
use Rattle.pg_selection.specs.Search.{Search, terminator}
use Rattle.pg_blocks.specs.Lines.{lines}
use Rattle.pg_rows.specs.Remembered.{HasLines}
use Rattle.pg_rows.proofs.PieceLemmas.{IsCutBehind}
use Rattle.pg_rows.proofs.printer.line_beyond.Given as goal

abbrev pub invariant-loop-run : goal.invariant-loop-run
invariant-loop-run l =
    (q : Search) (bytes : List ℕ) (limit kept : ℕ) → HasLines q bytes l.runs l.total → l.fn.room ≡ limit - kept
    → IsCutBehind q limit kept (lines (terminator q) bytes) l.left (drop l.run-index l.runs)
