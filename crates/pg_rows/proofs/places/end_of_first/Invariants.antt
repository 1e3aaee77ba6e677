use Rattle.std.proofs.Common.{◌-◌, ◌≤◌}
use Rattle.pg_rows.specs.Places.{FirstLines}
use Rattle.pg_rows.proofs.places.end_of_first.Given as goal

abbrev pub invariant-loop-left : goal.invariant-loop-left
invariant-loop-left l = record {
  few : l.left ≤ l.count;
  first : FirstLines l.end l.text l.at (l.count - l.left);
}

abbrev pub decreases-loop-left : goal.decreases-loop-left
decreases-loop-left l = l.left
