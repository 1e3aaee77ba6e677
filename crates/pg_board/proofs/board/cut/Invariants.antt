use Rattle.std.proofs.Common.{◌≡◌, ◌+◌, ◌-◌, ◌<◌, ◌≤◌, [], false, vec_len, vec_capacity, replicate}
use Rattle.pg_board.specs.Draws.{draws}
use Rattle.pg_board.specs.Board.{board_view, seat_view}
use Rattle.pg_board.specs.BoardRule.{token_view}
use Rattle.pg_board.proofs.board.cut.Given as goal

abbrev pub invariant-loop : goal.invariant-loop
invariant-loop g l = record {
  count : vec_len l.seats + 1 ≡ l.counter;
  some_left : vec_len l.seats < l.fn.size.seats;
  room : l.fn.size.seats ≤ vec_capacity l.seats;
  table : l.whole.table_id ≡ l.word.shared.table_id;
  whole : l.whole.me ≡ (token_view l.fn.size (replicate (l.fn.size.seats - vec_len l.seats) (draws [] false)), []);
  items : l.seats.items ≡ replicate (vec_len l.seats)
      (seat_view (board_view l.word.shared.table_id l.fn.size) [] false);
}
