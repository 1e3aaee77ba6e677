use Rattle.std.proofs.Common.{◌≡◌, ◌≢◌, All, [], ◌++◌, map, vec_len}
use Rattle.pg_board.specs.Draws.{draws}
use Rattle.pg_board.specs.Board.{board_view, SeatView}
use Rattle.pg_board.proofs.board.join.Given as goal

abbrev pub invariant-loop-seat : goal.invariant-loop-seat
invariant-loop-seat g l = record {
  table : l.whole.table_id ≡ l.word.shared.table_id;
  some_seat : l.whole.me.0.seats ≢ [];
  boards : All (λ (s : SeatView). s.board ≡ board_view l.word.shared.table_id l.fn.size) l.seats.items;
  seats : map (λ (s : SeatView). draws s.drawn s.spent) l.seats.items ++ l.whole.me.0.seats ≡ map
      (λ (s : SeatView). draws s.drawn s.spent) l.fn.seats.items;
}

abbrev pub decreases-loop-seat : goal.decreases-loop-seat
decreases-loop-seat g l = vec_len l.seats
