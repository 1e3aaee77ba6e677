use Rattle.std.proofs.Common.{◌≡◌, ◌+◌, ◌≤◌, [], false, All, vec_len, vec_capacity}
use Rattle.pg_selection.specs.Searched.{SearchedBlock}
use Rattle.pg_board.specs.Board.{SeatView, seat_view}
use Rattle.pg_board.specs.Tray.{PutView, put_view}
use Rattle.pg_workers.specs.Workers.{task_of, HasFinished}
use Rattle.pg_workers.proofs.opening.gather.Given as goal

abbrev pub invariant-loop-seat : goal.invariant-loop-seat
invariant-loop-seat g l = record {
  seats : All (λ (s : SeatView). s ≡ seat_view l.round.board.now [] false) l.seats.items;
  passes : All (λ (p : PutView SearchedBlock g.row.A.Denot). p ≡ put_view l.round.tray.now []) l.passes.items;
  fits : All (g.Q.BlockSearch.seen l.round.query.now).fits l.scratches.items;
  same : vec_len l.passes ≡ vec_len l.seats;
  count : vec_len l.workers + vec_len l.seats ≡ vec_len l.initial.seats;
  left : vec_len l.scratches + vec_len l.workers ≡ vec_len l.initial.scratches;
  enough : vec_len l.initial.seats ≤ vec_len l.initial.scratches;
  room : vec_len l.initial.seats ≤ vec_capacity l.workers;
  finished : All (HasFinished (task_of g.Q.BlockSearch.seen l.round)) l.workers.items;
}

abbrev pub decreases-loop-seat : goal.decreases-loop-seat
decreases-loop-seat g l = vec_len l.seats
