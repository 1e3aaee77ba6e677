use Rattle.std.proofs.Common.{◌≡◌, ◌+◌, ◌≤◌, All, vec_len, vec_capacity}
use Rattle.pg_workers.specs.Workers.{task_of, HasWorked, IsStarted}
use Rattle.pg_workers.proofs.starting.join_all.Given as goal

abbrev pub invariant-loop-started : goal.invariant-loop-started
invariant-loop-started g l = record {
  count : vec_len l.workers + vec_len l.all ≡ vec_len l.initial.workers + vec_len l.initial.all;
  room : vec_len l.workers + vec_len l.all ≤ vec_capacity l.workers;
  started : All (IsStarted g.Q.BlockSearch.seen l.round) l.all.items;
  worked : All (HasWorked (task_of g.Q.BlockSearch.seen l.round)) l.workers.items;
}

abbrev pub decreases-loop-started : goal.decreases-loop-started
decreases-loop-started g l = vec_len l.all
