use Rattle.std.proofs.Common.{◌≡◌}
use Rattle.pg_base_tests.proofs.tray.take_fifty.Given as goal

abbrev pub invariant-loop : goal.invariant-loop
invariant-loop g l = record {
  tray : l.take.tray ≡ l.tray;
  workers : l.take.workers ≡ l.initial.take.workers;
}
