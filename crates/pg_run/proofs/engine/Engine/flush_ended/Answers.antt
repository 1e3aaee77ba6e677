use Rattle.std.proofs.lemmas.Result.{MatchResult-weaker}
use Rattle.pg_run.proofs.engine.Engine.flush_ended.Goals as goal

pub flush-requires-clause-holds : goal.flush-requires-clause-holds
flush-requires-clause-holds g c κs within = c.requires.holds

pub returns : goal.returns
returns g c = λ aim steps h.
    MatchResult-weaker c.flush.result (c.flush.ensures.outcome aim steps h) (λ _ k. k.0) (λ _ k. k)

pub returns-then-not-has_many_empty : goal.returns-then-not-has_many_empty
returns-then-not-has_many_empty g c = λ aim steps h. h
