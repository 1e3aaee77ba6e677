use Rattle.pg_run.proofs.HoldLemmas.{fails_by}
use Rattle.pg_run.proofs.ReadingLemmas.{flushed, rest_breaks}
use Rattle.pg_run.proofs.reading.settle.Goals as goal

pub search_lines-requires-clause-in_file : goal.search_lines-requires-clause-in_file
search_lines-requires-clause-in_file g c κs within = c.requires.in_file

pub returns-in_err-search_lines-clause-outcome : goal.returns-in_err-search_lines-clause-outcome
returns-in_err-search_lines-clause-outcome g c = λ given aim h.
    fails_by c.from_residual.result _ _ c.from_residual.ensures.1 (c.in_err-search_lines.ensures.outcome given aim h)

pub flush_waiting-requires-clause-holds : goal.flush_waiting-requires-clause-holds
flush_waiting-requires-clause-holds g c κs within =
    let r = c.requires.in_file in
    let k = c.in_ok-search_lines.ensures.outcome r.1 r.0 r.3 in
    (r.0, k.steps, k.holds)

pub returns-in_err-flush_waiting-clause-outcome : goal.returns-in_err-flush_waiting-clause-outcome
returns-in_err-flush_waiting-clause-outcome g c = λ given aim h.
    let out' = g.W.Sink.stream c.flush_waiting.new.out in
    let k = c.in_ok-search_lines.ensures.outcome given aim h in
    let fault = c.in_err-flush_waiting.field-0.0 in
    fails_by c.from_residual-in_err-flush_waiting.result _ _ c.from_residual-in_err-flush_waiting.ensures.1
    (rest_breaks k _ given out' fault k.cuts (c.in_err-flush_waiting.ensures aim k.steps k.holds))

pub returns-in_err-send_on-clause-outcome : goal.returns-in_err-send_on-clause-outcome
returns-in_err-send_on-clause-outcome g c = λ given aim h.
    let out' = g.W.Sink.stream c.send_on.new.out in
    let k = c.in_ok-search_lines.ensures.outcome given aim h in
    let holds = c.in_ok-flush_waiting.ensures aim k.steps k.holds in
    let fault = c.in_err-send_on.field-0.0 in
    fails_by c.from_residual-in_err-send_on.result _ _ c.from_residual-in_err-send_on.ensures.1
    (rest_breaks k _ given out' fault k.cuts (c.in_err-send_on.ensures.keeps aim k.steps holds))

pub returns-clause-outcome : goal.returns-clause-outcome
returns-clause-outcome g c = λ given aim h.
    let k = c.in_ok-search_lines.ensures.outcome given aim h in
    flushed k _ _
    (c.in_ok-send_on.ensures.keeps aim k.steps (c.in_ok-flush_waiting.ensures aim k.steps k.holds))
