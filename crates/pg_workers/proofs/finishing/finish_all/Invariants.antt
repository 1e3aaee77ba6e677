use Rattle.std.specs.List.{All, AllWithin}
use Rattle.pg_workers.specs.Workers.{task_of, HasWorked, HasFinished}
use Rattle.pg_workers.proofs.finishing.finish_all.Given as goal

-- the workers so far have finished
abbrev pub invariant-loop-worker : goal.invariant-loop-worker
invariant-loop-worker g l = record {
  worked : All (HasWorked (task_of g.Q.BlockSearch.seen l.round)) l.worker-items;
  finished : AllWithin (HasFinished (task_of g.Q.BlockSearch.seen l.round)) l.worker-items 0 l.worker-index;
}
