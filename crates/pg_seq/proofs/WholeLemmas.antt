-- Once all blocks were taken the front is the plan. Serves `complete`, and the law on complete outputs.
use Rattle.std.proofs.Common.{◌≡◌, true}
use Rattle.pg_plan.specs.History.{Past, plan, taken_of, all_taken, front_of, front_after}
use Rattle.pg_seq.proofs.FrontLemmas.{front_all}

-- where all blocks were taken the front is the plan
pub front_whole : (past : Past) → all_taken (taken_of past.query past.events) (plan past) ≡ true
    → front_of past ≡ plan past
unfolding front_after
front_whole past e = front_all (taken_of past.query past.events) (plan past) e
