use Rattle.pg_run.proofs.HoldLemmas.{fails_by}
use Rattle.pg_run.proofs.reading.finish_file.Goals as goal

pub search_last-requires : goal.search_last-requires
search_last-requires g c = record { last = c.requires.last }

pub returns-in_err-search_last-clause-outcome : goal.returns-in_err-search_last-clause-outcome
returns-in_err-search_last-clause-outcome g c = λ aim given h.
    fails_by c.from_residual.result _ _ c.from_residual.ensures.1 (c.in_err-search_last.ensures aim given h)

pub end_file-requires-clause-may_end : goal.end_file-requires-clause-may_end
end_file-requires-clause-may_end g c κs within =
    let r = c.requires.last.in_file in
    (r.0, r.1, c.in_ok-search_last.ensures r.0 r.1 r.3)

pub returns-clause-outcome : goal.returns-clause-outcome
returns-clause-outcome g c = λ aim given h.
    c.end_file.ensures.outcome aim given (c.in_ok-search_last.ensures aim given h)
