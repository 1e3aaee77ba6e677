use Rattle.std.proofs.Common.{◌≡◌, ◌+◌, ◌≤◌, All, vec_len, vec_capacity}
use Rattle.pg_workers.specs.Workers.{task_of, HasFinished, IsStarted}
use Rattle.pg_workers.proofs.starting.start_all.Given as goal

abbrev pub invariant-loop-workers : goal.invariant-loop-workers
invariant-loop-workers g l = record {
  least : 2 ≤ vec_len l.workers;
  count : vec_len l.all + vec_len l.workers ≡ vec_len l.initial.workers;
  room : vec_len l.initial.workers ≤ vec_capacity l.all;
  finished : All (HasFinished (task_of g.Q.BlockSearch.seen l.round)) l.workers.items;
  same : vec_capacity l.workers ≡ vec_capacity l.initial.workers;
  started : All (IsStarted g.Q.BlockSearch.seen l.round) l.all.items;
}

abbrev pub decreases-loop-workers : goal.decreases-loop-workers
decreases-loop-workers g l = vec_len l.workers
