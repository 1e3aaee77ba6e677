use Rattle.pg_run.proofs.HoldLemmas.{sent, unsent}
use Rattle.pg_run.proofs.engine.Engine.send_on.Goals as goal

pub returns-then-not-is_due-clause-keeps : goal.returns-then-not-is_due-clause-keeps
returns-then-not-is_due-clause-keeps g c = λ aim steps h. h

pub returns-in-Ok-clause-keeps : goal.returns-in-Ok-clause-keeps
returns-in-Ok-clause-keeps g c = λ aim steps h.
    sent h (g.W.Sink.stream c.flush.new.self) c.in-Ok.ensures.taken
    c.in-Ok.ensures.outcome

pub returns-in-Err-clause-keeps : goal.returns-in-Err-clause-keeps
returns-in-Err-clause-keeps g c = λ aim steps h.
    unsent h (g.W.Sink.stream c.flush.new.self) c.in-Err.ensures.taken
    c.in-Err.ensures.outcome
