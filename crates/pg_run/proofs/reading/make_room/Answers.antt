use Rattle.std.proofs.lemmas.Result.{MatchResult-weaker}
use Rattle.std.proofs.Common.{ap, length, arith}
use Rattle.pg_base.proofs.SinkLemmas.{on_ok}
use Rattle.pg_reader.proofs.ReadLemmas.{nothing_read, reads_none}
use Rattle.pg_run.proofs.ReadingLemmas.{cuts_on, has_fed, recut, rest_breaks}
use Rattle.pg_run.proofs.reading.make_room.Goals as goal

pub search_round-requires-clause-ready : goal.search_round-requires-clause-ready
search_round-requires-clause-ready g c κs within =
    let r = c.requires.in_file in
    let k = recut r.1.cuts _ c.read_ahead.ensures.cutter c.read_ahead.ensures.came in
    (k.fed, k.lost, has_fed k)

pub returns-clause-reads_on : goal.returns-clause-reads_on
returns-clause-reads_on g c = (c.search_round.ensures.read.read _ _ nothing_read).reads_on

pub returns-clause-room : goal.returns-clause-room
returns-clause-room g c =
    on_ok c.search_round.result _ _
    (λ e spread. omega (arith, ap length e, c.search_round.new.self.setup.round_in_range.0))
    c.search_round.ensures.empties.none

pub returns-clause-outcome : goal.returns-clause-outcome
returns-clause-outcome g c = λ aim h.
    let on = c.search_round.ensures.read.read _ _ nothing_read in
    let cuts = cuts_on (recut h.cuts _ c.read_ahead.ensures.cutter c.read_ahead.ensures.came) on in
    MatchResult-weaker c.search_round.result (c.search_round.ensures.empties.outcome aim h.steps h.holds)
    (λ _ k. record { steps = h.steps; holds = k.0; cuts = cuts }) (λ fault k. rest_breaks h _ _ _ fault cuts k)

pub returns-then-not-is_full-clause-reads_on : goal.returns-then-not-is_full-clause-reads_on
returns-then-not-is_full-clause-reads_on g c = reads_none

pub returns-then-not-is_full-clause-outcome : goal.returns-then-not-is_full-clause-outcome
returns-then-not-is_full-clause-outcome g c = λ aim h. h
