use Rattle.std.proofs.Common.{◌≡◌}
use Rattle.pg_base_tests.proofs.tray.put_hundred.Given as goal

abbrev pub invariant-loop-number : goal.invariant-loop-number
invariant-loop-number g l = l.pass.tray ≡ l.tray
