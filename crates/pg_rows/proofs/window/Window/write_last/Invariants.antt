use Rattle.std.proofs.Common.{◌≡◌, ◌+◌, ◌<◌, ◌^◌, length, drop}
use Rattle.std.specs.List.{AllByRecursion}
use Rattle.circular_buffer.specs.Buffer.{keep_last}
use Rattle.pg_rows.specs.Output.{bytes_in}
use Rattle.pg_rows.specs.Stretch.{marked_rows, plain}
use Rattle.pg_rows.specs.Window.{lines_in, lines_held, IsTail}
use Rattle.pg_base.proofs.WriteLemmas.{WritesAllBut}
use Rattle.pg_rows.proofs.window.Window.write_last.Given as goal

-- the rows of the tails to come are left to write, but for the lines that are still to be skipped
abbrev pub invariant-loop-tail : goal.invariant-loop-tail
invariant-loop-tail g l = record {
  can_next : (goal.iterator-loop-tail g).can_next l.tail-iterator;
  is_finite : (goal.iterator-loop-tail g).is_finite l.tail-iterator;
  each : AllByRecursion (IsTail l.end) l.tail-iterator;
  small : l.at.number + length (drop l.skip (lines_in l.end l.tail-iterator)) < 2 ^ 64;
  placed : l.at.offset + bytes_in (drop l.skip (lines_in l.end l.tail-iterator)) < 2 ^ 64;
  prefix : l.prefix ≡ l.fn.prefix;
  left : WritesAllBut (marked_rows l.format l.end l.fn.prefix 45 plain l.fn.first.number l.fn.first.offset
      (keep_last l.count (lines_held l.end l.self)))
      (marked_rows l.format l.end l.fn.prefix 45 plain l.at.number l.at.offset
      (drop l.skip (lines_in l.end l.tail-iterator)))
      (g.W.Sink.stream l.fn.out) (g.W.Sink.stream l.out);
}
