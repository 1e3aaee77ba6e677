use Rattle.std.proofs.Common.{◌≡◌, ◌+◌, ◌<◌, ◌≤◌, drop, length}
use Rattle.pg_selection.specs.Search.{Search}
use Rattle.pg_selection.specs.Searched.{lines_of}
use Rattle.pg_rows.specs.declared.format.Format.{Format}
use Rattle.pg_rows.specs.Cursor.{Cursor}
use Rattle.pg_rows.specs.Remembered.{IsAtCursor}
use Rattle.pg_rows.proofs.PieceLemmas.{HasFound}
use Rattle.pg_rows.proofs.PrinterSteps.{IsAmong}
use Rattle.pg_rows.proofs.printer.Printer.print_runs.Given as goal

abbrev pub invariant-loop-run : goal.invariant-loop-run
invariant-loop-run g l = record {
  same : l.self ≡ l.fn.self;
  no_failure : (g.W.Sink.stream l.out).failures ≡ (g.W.Sink.stream l.fn.out).failures;
  number : l.place.progress.number ≡ l.self.progress.number + l.place.seen;
  fresh : l.place.at ≡ 0 → l.place.progress ≡ l.self.progress;
  kept : 0 < l.place.at → l.place.progress.behind ≡ 0;
  used : l.place.used ≤ length l.parts;
  comes : (q : Search) (format : Format) (c : Cursor) → IsAtCursor l.fn.self q format c
      → HasFound q l.bytes l.runs l.parts (length (lines_of l.fn.found)) →
      IsAmong l.self q format c l.bytes (g.W.Sink.stream l.fn.out).taken (g.W.Sink.stream l.out).taken l.parts l.place
      (drop l.run-index l.runs);
}
