use Rattle.std.proofs.Common.{◌≡◌}
use Rattle.pg_base_tests.proofs.board.draw_some.Given as goal

abbrev pub invariant-loop : goal.invariant-loop
invariant-loop l = l.seat.board ≡ l.board
