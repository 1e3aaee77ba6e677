use Rattle.std.proofs.Common.{◌-◌, ◌≤◌}
use Rattle.pg_rows.proofs.PlaceLemmas.{LastLines}
use Rattle.pg_rows.proofs.places.start_of_last.Given as goal

abbrev pub invariant-loop-left : goal.invariant-loop-left
invariant-loop-left l = record {
  few : l.left ≤ l.count;
  last : LastLines l.end l.text l.start (l.count - l.left);
}

abbrev pub decreases-loop-left : goal.decreases-loop-left
decreases-loop-left l = l.left
