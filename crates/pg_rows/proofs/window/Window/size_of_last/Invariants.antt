use Rattle.std.proofs.Common.{◌≡◌, ◌+◌, drop}
use Rattle.std.specs.List.{AllByRecursion}
use Rattle.circular_buffer.specs.Buffer.{keep_last}
use Rattle.pg_rows.specs.Output.{bytes_in}
use Rattle.pg_rows.specs.Window.{lines_in, lines_held, IsTail}
use Rattle.pg_rows.proofs.window.Window.size_of_last.Given as goal

-- the lines of the tails to come are left to count, but for those that are still to be skipped
abbrev pub invariant-loop-tail : goal.invariant-loop-tail
invariant-loop-tail g l = record {
  can_next : (goal.iterator-loop-tail g).can_next l.tail-iterator;
  is_finite : (goal.iterator-loop-tail g).is_finite l.tail-iterator;
  each : AllByRecursion (IsTail l.end) l.tail-iterator;
  left : l.size + bytes_in (drop l.skip (lines_in l.end l.tail-iterator))
      ≡ bytes_in (keep_last l.count (lines_held l.end l.self));
}
