use Rattle.std.proofs.Common.{◌≡◌}
use Rattle.pg_workers.specs.Workers.{task_of, GrowAlike}
use Rattle.pg_workers.proofs.worker.work.Given as goal

abbrev pub invariant-loop : goal.invariant-loop
invariant-loop g l =
    (goal.iterator-loop g).can_next l.iterator' × (goal.iterator-loop g).is_finite l.iterator'
    × (l.seat.board ≡ l.round.board.now) × (l.pass.tray ≡ l.round.tray.now)
    × (g.Q.BlockSearch.seen l.round.query.now).fits l.scratch
    × GrowAlike (task_of g.Q.BlockSearch.seen l.round) l.initial.seat.drawn l.seat.drawn l.initial.pass.put l.pass.put
