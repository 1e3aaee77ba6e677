use Rattle.std.proofs.lemmas.Result.{MatchResult-weaker}
use Rattle.std.proofs.Common.{ap, length, arith}
use Rattle.pg_base.proofs.SinkLemmas.{on_ok}
use Rattle.pg_run.proofs.engine.Engine.make_room.Goals as goal

pub flush-requires-clause-holds : goal.flush-requires-clause-holds
flush-requires-clause-holds g c κs within = c.requires.holds

pub returns-clause-room : goal.returns-clause-room
returns-clause-room g c =
    on_ok c.flush.result _ _ (λ e spread. omega (arith, ap length e, c.flush.new.self.setup.round_in_range.0))
    c.flush.ensures.none

pub returns-clause-outcome : goal.returns-clause-outcome
returns-clause-outcome g c = λ aim steps h.
    MatchResult-weaker c.flush.result (c.flush.ensures.outcome aim steps h) (λ _ k. k.0) (λ _ k. k)

pub returns-then-not-is_full-clause-outcome : goal.returns-then-not-is_full-clause-outcome
returns-then-not-is_full-clause-outcome g c = λ aim steps h. h
