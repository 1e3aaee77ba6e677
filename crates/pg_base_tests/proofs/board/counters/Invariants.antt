use Rattle.std.proofs.Common.{◌≡◌, ◌≤◌, vec_len, vec_capacity}
use Rattle.pg_base_tests.proofs.board.counters.Given as goal

abbrev pub invariant-loop : goal.invariant-loop
invariant-loop l = record {
  count : vec_len l.counters ≡ l.counter;
  room : l.fn.count ≤ vec_capacity l.counters;
}
