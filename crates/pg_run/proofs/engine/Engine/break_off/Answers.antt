use Rattle.std.proofs.Common.{◌∙◌, inl, inr, refl}
use Rattle.pg_run.proofs.engine.Engine.break_off.Goals as goal

pub flush-requires-clause-holds : goal.flush-requires-clause-holds
flush-requires-clause-holds g c κs within = c.requires.holds

pub returns-in-Ok-send_on : goal.returns-in-Ok-send_on
returns-in-Ok-send_on g c = λ aim steps h.
    let ok = c.in-Ok.ensures.outcome aim steps h in
    inl (refl, c.in-Ok-send_on.ensures.taken ∙ ok.1, (c.in-Ok-send_on.ensures.keeps aim steps ok.0).calm)

pub returns-in-Err-send_on : goal.returns-in-Err-send_on
returns-in-Err-send_on g c = λ aim steps h.
    inr (c.in-Err-send_on.ensures.keeps aim steps (c.in-Ok.ensures.outcome aim steps h).0)

pub returns-in-Err : goal.returns-in-Err
returns-in-Err g c = λ aim steps h. inr (c.in-Err.ensures.outcome aim steps h)
