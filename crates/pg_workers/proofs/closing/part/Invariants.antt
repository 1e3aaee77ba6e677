use Rattle.std.proofs.Common.{◌≡◌, ◌⊎◌, ◌+◌, ◌≤◌, true, All, Any, vec_len, vec_capacity}
use Rattle.pg_board.specs.Board.{SeatView}
use Rattle.pg_workers.specs.declared.worker.Worker.{Worker}
use Rattle.pg_workers.specs.Workers.{task_of, HasFinished, AreWorks}
use Rattle.pg_workers.proofs.closing.part.Given as goal

abbrev pub invariant-loop-worker : goal.invariant-loop-worker
invariant-loop-worker g l = record {
  finished : All (HasFinished (task_of g.Q.BlockSearch.seen l.round)) l.workers.items;
  works : AreWorks (task_of g.Q.BlockSearch.seen l.round) l.seats.items l.passes.items;
  spent : Any (λ (w : Worker g.row.A.Denot g.row.C.Denot). w.seat.spent ≡ true) l.workers.items
      ⊎ Any (λ (s : SeatView). s.spent ≡ true) l.seats.items;
  fits : All (g.Q.BlockSearch.seen l.round.query.now).fits l.scratches.items;
  same : vec_len l.passes ≡ vec_len l.seats;
  count : vec_len l.workers + vec_len l.seats ≡ vec_len l.initial.workers;
  back : vec_len l.scratches + vec_len l.workers ≡ vec_len l.initial.scratches + vec_len l.initial.workers;
  room : (vec_len l.initial.workers ≤ vec_capacity l.seats) × (vec_len l.initial.workers ≤ vec_capacity l.passes);
}

abbrev pub decreases-loop-worker : goal.decreases-loop-worker
decreases-loop-worker g l = vec_len l.workers
