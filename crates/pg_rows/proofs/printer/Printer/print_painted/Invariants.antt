use Rattle.std.proofs.Common.{◌≡◌, ◌+◌, ◌-◌, ◌≤◌, true, length, drop}
use Rattle.pg_selection.specs.Search.{Search}
use Rattle.pg_blocks.specs.Lines.{lines}
use Rattle.pg_rows.specs.Painting.{AreToldParts}
use Rattle.pg_rows.proofs.PaintLemmas.{AreToPrint}
use Rattle.pg_rows.proofs.printer.Printer.print_painted.Given as goal

-- the rows of the lines from the place on are left to write
abbrev pub invariant-loop-at : goal.invariant-loop-at
invariant-loop-at g l = record {
  same : l.self ≡ l.fn.self;
  begun : l.fn.from ≤ l.at;
  fits : l.used ≤ length l.parts;
  count : l.done + length (lines l.fn.self.end (drop l.at l.bytes))
      ≡ length (lines l.fn.self.end (drop l.fn.from l.bytes));
  left : (q : Search) → AreToldParts q true l.fn.self.end l.bytes l.fn.from l.fn.line l.parts
      → AreToPrint q l.fn.self.format l.fn.self.end l.fn.self.prefix l.fn.first.number l.fn.first.offset l.bytes
      l.fn.from l.fn.line l.parts
      l.at l.done l.used (g.W.Sink.stream l.fn.out) (g.W.Sink.stream l.out);
}

abbrev pub decreases-loop-at : goal.decreases-loop-at
decreases-loop-at g l = length l.bytes - l.at
