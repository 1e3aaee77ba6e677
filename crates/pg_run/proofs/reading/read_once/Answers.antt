use Rattle.std.proofs.Common.{◌∙◌}
use Rattle.pg_run.proofs.HoldLemmas.{fails_by}
use Rattle.pg_reader.proofs.ReadLemmas.{then_reads}
use Rattle.pg_run.proofs.ReadingLemmas.{has_fed, read_on}
use Rattle.pg_base.proofs.SinkLemmas.{ok_of_err}
use Rattle.pg_run.proofs.reading.read_once.Goals as goal

pub read-requires : goal.read-requires
read-requires g c =
    let r = c.requires.in_file in
    let given = (g.F.Files.past c.args.files.now).given in
    let h = c.recycle.ensures.in_file r.0 given (g.W.Sink.stream c.args.out.now) r.1 in
    record { more = c.recycle.ensures.came ∙ c.requires.more; fed = (h.cuts.fed, h.cuts.lost, has_fed h.cuts) }

pub search_ready-requires-clause-in_file : goal.search_ready-requires-clause-in_file
search_ready-requires-clause-in_file g c κs within =
    let r = c.requires.in_file in
    let given = (g.F.Files.past c.args.files.now).given in
    let out = g.W.Sink.stream c.args.out.now in
    (r.0, read_on (c.recycle.ensures.in_file r.0 given out r.1) c.read.ensures.reads)

pub returns-in_err-search_ready-clause-outcome : goal.returns-in_err-search_ready-clause-outcome
returns-in_err-search_ready-clause-outcome g c = λ aim start.
    let given = (g.F.Files.past c.args.files.now).given in
    let out = g.W.Sink.stream c.args.out.now in
    let h = c.recycle.ensures.in_file aim given out start in
    fails_by c.from_residual.result _ _ c.from_residual.ensures.1
    (c.in_err-search_ready.ensures.outcome aim (read_on h c.read.ensures.reads))

pub returns-clause-outcome : goal.returns-clause-outcome
returns-clause-outcome g c = λ aim start.
    let given = (g.F.Files.past c.args.files.now).given in
    let out = g.W.Sink.stream c.args.out.now in
    let h = c.recycle.ensures.in_file aim given out start in
    c.in_ok-search_ready.ensures.outcome aim (read_on h c.read.ensures.reads)

pub returns-in_err-search_ready-clause-reads_on : goal.returns-in_err-search_ready-clause-reads_on
returns-in_err-search_ready-clause-reads_on g c =
    then_reads c.read.ensures.reads.reads_on c.in_err-search_ready.ensures.reads_on

pub returns-in_err-search_ready-clause-taken : goal.returns-in_err-search_ready-clause-taken
returns-in_err-search_ready-clause-taken g c = ok_of_err c.from_residual.result _ c.from_residual.ensures.0

pub returns-clause-reads_on : goal.returns-clause-reads_on
returns-clause-reads_on g c = then_reads c.read.ensures.reads.reads_on c.in_ok-search_ready.ensures.reads_on
