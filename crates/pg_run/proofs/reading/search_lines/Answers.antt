use Rattle.std.proofs.lemmas.Result.{MatchResult-weaker}
use Rattle.pg_run.proofs.HoldLemmas.{fails_by}
use Rattle.pg_run.proofs.BlockLemmas.{gives_early}
use Rattle.pg_run.proofs.ReadingLemmas.{rest_breaks, next_may, next_breaks, next_taken, recut_by}
use Rattle.pg_run.proofs.reading.search_lines.Goals as goal

pub make_room-requires-clause-holds : goal.make_room-requires-clause-holds
make_room-requires-clause-holds g c κs within =
    let r = c.requires.in_file in
    (r.0, r.3.steps, r.3.holds)

pub returns-in_err-make_room-clause-outcome : goal.returns-in_err-make_room-clause-outcome
returns-in_err-make_room-clause-outcome g c = λ given aim h.
    let out' = g.W.Sink.stream c.make_room.new.out in
    let fault = c.in_err-make_room.field-0.0 in
    fails_by c.from_residual.result _ _ c.from_residual.ensures.1
    (rest_breaks h c.args.reader.now given out' fault h.cuts (c.in_err-make_room.ensures.outcome aim h.steps h.holds))

pub search-requires-clause-ready : goal.search-requires-clause-ready
search-requires-clause-ready g c =
    let r = c.requires.in_file in
    let h = r.3 in
    let lines = gives_early h.cuts.fed c.in-Some.lines (c.in-Some.ensures.lines h.cuts.fed h.cuts.cut) in
    (r.0, h.steps, _, (c.in_ok-make_room.ensures.outcome r.0 h.steps h.holds, next_may h.cuts c.in-Some.lines lines))

pub returns-in-Some-clause-outcome : goal.returns-in-Some-clause-outcome
returns-in-Some-clause-outcome g c = λ given aim h.
    let block = c.in-Some.lines in
    let e = c.in-Some.ensures in
    let lines = gives_early h.cuts.fed block (e.lines h.cuts.fed h.cuts.cut) in
    let holds = c.in_ok-make_room.ensures.outcome aim h.steps h.holds in
    MatchResult-weaker c.search.result (c.search.ensures aim h.steps (holds, next_may h.cuts block lines))
    (λ _ k. record {
      steps = _;
      holds = k.0;
      cuts = next_taken h.cuts c.take_lines.new.self block _ e.came lines (e.stands h.cuts.fed h.cuts.cut);
    })
    (λ fault k. next_breaks h block _ fault lines k)

pub returns-in-None-clause-outcome : goal.returns-in-None-clause-outcome
returns-in-None-clause-outcome g c = λ given aim h.
    let e = c.in-None.ensures in
    record {
      steps = h.steps;
      holds = c.in_ok-make_room.ensures.outcome aim h.steps h.holds;
      cuts = recut_by h.cuts _ (e.stands h.cuts.fed h.cuts.cut) e.came;
    }
