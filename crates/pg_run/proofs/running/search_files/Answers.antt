use Rattle.pg_run.proofs.HoldLemmas.{fails_by}
use Rattle.pg_run.proofs.RunLemmas.{done_breaks, done_finishes}
use Rattle.pg_run.proofs.running.search_files.Goals as goal

pub all_files-requires-clause-new : goal.all_files-requires-clause-new
all_files-requires-clause-new g c κs within = c.requires.new

pub all_files-requires-clause-rests : goal.all_files-requires-clause-rests
all_files-requires-clause-rests g c κs within = c.requires.rests

pub returns-in_err-all_files-clause-outcome : goal.returns-in_err-all_files-clause-outcome
returns-in_err-all_files-clause-outcome g c = λ aim start.
    fails_by c.from_residual.result _ _ c.from_residual.ensures.1 (c.in_err-all_files.ensures.outcome aim start)

pub finish-requires-clause-holds : goal.finish-requires-clause-holds
finish-requires-clause-holds g c κs within =
    let r = c.requires.rests in
    let b = (c.in_ok-all_files.ensures.outcome r.0 r.1).rests.0 in
    (r.0, b.steps, b.holds, b.closed)

pub returns-in_err-status-clause-outcome : goal.returns-in_err-status-clause-outcome
returns-in_err-status-clause-outcome g c = λ aim start.
    let out' = g.W.Sink.stream c.finish.new.out in
    let d = c.in_ok-all_files.ensures.outcome aim start in
    let fault = c.in_err-status.field-0.0 in
    fails_by c.from_residual-in_err-status.result _ _ c.from_residual-in_err-status.ensures.1
    (done_breaks d out' fault (c.in_err-status.ensures aim d.rests.0.steps d.rests.0.holds))

pub returns-clause-outcome : goal.returns-clause-outcome
returns-clause-outcome g c = λ aim start.
    let out' = g.W.Sink.stream c.finish.new.out in
    let d = c.in_ok-all_files.ensures.outcome aim start in
    let b = d.rests.0 in
    done_finishes d out' c.in_ok-status.status (c.in_ok-status.ensures aim b.steps b.holds)
