use Rattle.std.proofs.Common.{◌∷◌, refl}
use Rattle.pg_plan.specs.Plan.{Ends}
use Rattle.pg_run.proofs.HoldLemmas.{fails_by}
use Rattle.pg_run.proofs.ReadingLemmas.{file_ended, ended_breaks}
use Rattle.pg_run.proofs.reading.end_file.Goals as goal

pub end-requires : goal.end-requires
end-requires g c =
    let r = c.requires.may_end in
    let k = r.2 in
    (r.0, k.steps, _, (k.holds, (k.running, tt)))

pub flush_ended-requires-clause-holds : goal.flush_ended-requires-clause-holds
flush_ended-requires-clause-holds g c κs within =
    let r = c.requires.may_end in
    let k = r.2 in
    (r.0, Ends c.args.failed ∷ k.steps, c.end.ensures r.0 k.steps _ (k.holds, (k.running, tt)))

pub send_rows-requires-clause-holds : goal.send_rows-requires-clause-holds
send_rows-requires-clause-holds g c κs within =
    let r = c.requires.may_end in
    let k = r.2 in
    let ended = c.end.ensures r.0 k.steps _ (k.holds, (k.running, tt)) in
    (r.0, Ends c.args.failed ∷ k.steps, c.in_ok-flush_ended.ensures r.0 _ ended)

pub returns-in_err-flush_ended-clause-outcome : goal.returns-in_err-flush_ended-clause-outcome
returns-in_err-flush_ended-clause-outcome g c = λ aim given k.
    let out' = g.W.Sink.stream c.flush_ended.new.out in
    let fault = c.in_err-flush_ended.field-0.0 in
    let ended = c.end.ensures aim k.steps _ (k.holds, (k.running, tt)) in
    fails_by c.from_residual.result _ _ c.from_residual.ensures.1
    (ended_breaks c.args.failed k out' fault (c.in_err-flush_ended.ensures aim _ ended))

pub returns-in_err-send_rows-clause-outcome : goal.returns-in_err-send_rows-clause-outcome
returns-in_err-send_rows-clause-outcome g c = λ aim given k.
    let out' = g.W.Sink.stream c.send_rows.new.out in
    let fault = c.in_err-send_rows.field-0.0 in
    let ended = c.end.ensures aim k.steps _ (k.holds, (k.running, tt)) in
    fails_by c.from_residual-in_err-send_rows.result _ _ c.from_residual-in_err-send_rows.ensures.1
    (ended_breaks c.args.failed k out' fault
    (c.in_err-send_rows.ensures aim _ (c.in_ok-flush_ended.ensures aim _ ended)))

pub returns-in_err-send_on-clause-outcome : goal.returns-in_err-send_on-clause-outcome
returns-in_err-send_on-clause-outcome g c = λ aim given k.
    let out' = g.W.Sink.stream c.send_on.new.out in
    let fault = c.in_err-send_on.field-0.0 in
    let ended = c.end.ensures aim k.steps _ (k.holds, (k.running, tt)) in
    let sent = c.in_ok-send_rows.ensures aim _ (c.in_ok-flush_ended.ensures aim _ ended) in
    fails_by c.from_residual-in_err-send_on.result _ _ c.from_residual-in_err-send_on.ensures.1
    (ended_breaks c.args.failed k out' fault (c.in_err-send_on.ensures.keeps aim _ sent))

pub returns-clause-failed : goal.returns-clause-failed
returns-clause-failed g c = refl

pub returns-clause-outcome : goal.returns-clause-outcome
returns-clause-outcome g c = λ aim given k.
    let ended = c.end.ensures aim k.steps _ (k.holds, (k.running, tt)) in
    let sent = c.in_ok-send_rows.ensures aim _ (c.in_ok-flush_ended.ensures aim _ ended) in
    file_ended c.args.failed k c.send_rows.new.self _ (c.in_ok-send_on.ensures.keeps aim _ sent)
