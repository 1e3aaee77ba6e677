use Rattle.pg_run.proofs.HoldLemmas.{fails_by}
use Rattle.pg_run.proofs.engine.Engine.send_rows.Goals as goal

pub flush_waiting-requires-clause-holds : goal.flush_waiting-requires-clause-holds
flush_waiting-requires-clause-holds g c κs within = c.requires.holds

pub returns-then-not-is_due : goal.returns-then-not-is_due
returns-then-not-is_due g c = λ aim steps h. h

pub returns-in_err-flush_waiting : goal.returns-in_err-flush_waiting
returns-in_err-flush_waiting g c = λ aim steps h.
    fails_by c.from_residual.result _ _ c.from_residual.ensures.1 (c.in_err-flush_waiting.ensures aim steps h)

pub returns-in_err-send_on : goal.returns-in_err-send_on
returns-in_err-send_on g c = λ aim steps h.
    fails_by c.from_residual-in_err-send_on.result _ _ c.from_residual-in_err-send_on.ensures.1
    (c.in_err-send_on.ensures.keeps aim steps (c.in_ok-flush_waiting.ensures aim steps h))

pub returns : goal.returns
returns g c = λ aim steps h. c.in_ok-send_on.ensures.keeps aim steps (c.in_ok-flush_waiting.ensures aim steps h)
