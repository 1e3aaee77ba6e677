use Rattle.std.proofs.Common.{◌≡◌, ◌≤◌}
use Rattle.pg_literal.proofs.row.widest.Given as goal

abbrev pub invariant-loop-set : goal.invariant-loop-set
invariant-loop-set l = record {
  ordered : l.widest.start ≤ l.widest.stop;
  within : l.widest.stop ≤ l.set-index;
  part : l.part.start ≤ l.part.stop;
  reached : l.part.stop ≡ l.set-index;
}
