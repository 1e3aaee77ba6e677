use Rattle.std.proofs.Common.{◌≡◌, ◌≤◌, ◌-◌}
use Rattle.pg_literal.proofs.row.narrowed.Given as goal

abbrev pub invariant-loop-part : goal.invariant-loop-part
invariant-loop-part l = record {
  ordered : l.part.start ≤ l.part.stop;
  same : l.part.stop ≡ l.fn.part.stop;
}

abbrev pub decreases-loop-part : goal.decreases-loop-part
decreases-loop-part l = l.part.stop - l.part.start
