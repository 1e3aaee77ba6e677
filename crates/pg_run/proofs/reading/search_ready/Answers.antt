use Rattle.pg_run.proofs.HoldLemmas.{fails_by}
use Rattle.pg_run.proofs.BlockLemmas.{gives_next}
use Rattle.pg_reader.proofs.ReadLemmas.{then_reads}
use Rattle.pg_run.proofs.ReadingLemmas.{next_may, next_breaks, next_taken, none_taken}
use Rattle.pg_base.proofs.SinkLemmas.{ok_of_err}
use Rattle.pg_run.proofs.reading.search_ready.Goals as goal

pub make_room-requires-clause-in_file : goal.make_room-requires-clause-in_file
make_room-requires-clause-in_file g c κs within =
    let r = c.requires.in_file in
    (r.0, c.loop.invariant.reads r.0 r.1)

pub returns-in_err-make_room-clause-outcome : goal.returns-in_err-make_room-clause-outcome
returns-in_err-make_room-clause-outcome g c = λ aim start.
    fails_by c.from_residual.result _ _ c.from_residual.ensures.1
    (c.in_err-make_room.ensures.outcome aim (c.loop.invariant.reads aim start))

pub search-requires-clause-ready : goal.search-requires-clause-ready
search-requires-clause-ready g c =
    let r = c.requires.in_file in
    let h = c.in_ok-make_room.ensures.outcome r.0 (c.loop.invariant.reads r.0 r.1) in
    let block = c.in-Some-take.block in
    let n = gives_next h.cuts.fed block (c.in-Some-take.ensures.next h.cuts.fed h.cuts.cut) in
    (r.0, h.steps, _, (h.holds, next_may h.cuts block n))

pub returns-in_err-search-clause-outcome : goal.returns-in_err-search-clause-outcome
returns-in_err-search-clause-outcome g c = λ aim start.
    let h = c.in_ok-make_room.ensures.outcome aim (c.loop.invariant.reads aim start) in
    let n = gives_next h.cuts.fed c.in-Some-take.block (c.in-Some-take.ensures.next h.cuts.fed h.cuts.cut) in
    let out' = g.W.Sink.stream c.search.new.out in
    let fault = c.in_err-search.field-0.0 in
    fails_by c.from_residual-in_err-search.result _ _ c.from_residual-in_err-search.ensures.1
    (next_breaks h c.in-Some-take.block out' fault n
    (c.in_err-search.ensures aim h.steps (h.holds, next_may h.cuts c.in-Some-take.block n)))

pub returns-in_default-clause-outcome : goal.returns-in_default-clause-outcome
returns-in_default-clause-outcome g c = λ aim start.
    let h = c.in_ok-make_room.ensures.outcome aim (c.loop.invariant.reads aim start) in
    let e = c.in_default.ensures in
    record { steps = h.steps; holds = h.holds; cuts = none_taken h.cuts _ e.came (e.stands h.cuts.fed h.cuts.cut) }

pub loop-preserved : goal.loop-preserved
loop-preserved g c =
    let i = c.loop.invariant in
    let ok = c.in_ok-make_room.ensures in
    record {
      can_next = tt;
      is_finite = tt;
      reads_on = then_reads i.reads_on ok.reads_on;
      reads = λ aim start.
          let h = ok.outcome aim (i.reads aim start) in
          let e = c.in-Some-take.ensures in
          let n = gives_next h.cuts.fed c.in-Some-take.block (e.next h.cuts.fed h.cuts.cut) in
          let k = c.in_ok-search.ensures aim h.steps (h.holds, next_may h.cuts c.in-Some-take.block n) in
          record {
            steps = _;
            holds = c.in_ok-send_on.ensures.keeps aim _ k.0;
            cuts = next_taken h.cuts _ c.in-Some-take.block h.cuts.fed.early e.came n (e.stands h.cuts.fed h.cuts.cut);
          };
    }

pub returns-in_err-make_room-clause-reads_on : goal.returns-in_err-make_room-clause-reads_on
returns-in_err-make_room-clause-reads_on g c = then_reads c.loop.invariant.reads_on c.in_err-make_room.ensures.reads_on

pub returns-in_err-make_room-clause-taken : goal.returns-in_err-make_room-clause-taken
returns-in_err-make_room-clause-taken g c = ok_of_err c.from_residual.result _ c.from_residual.ensures.0

pub returns-in_err-search-clause-reads_on : goal.returns-in_err-search-clause-reads_on
returns-in_err-search-clause-reads_on g c = then_reads c.loop.invariant.reads_on c.in_ok-make_room.ensures.reads_on

pub returns-in_err-search-clause-taken : goal.returns-in_err-search-clause-taken
returns-in_err-search-clause-taken g c =
    ok_of_err c.from_residual-in_err-search.result _ c.from_residual-in_err-search.ensures.0

pub returns-in_default-clause-reads_on : goal.returns-in_default-clause-reads_on
returns-in_default-clause-reads_on g c = then_reads c.loop.invariant.reads_on c.in_ok-make_room.ensures.reads_on

pub returns-in_default-clause-taken : goal.returns-in_default-clause-taken
returns-in_default-clause-taken g c = (c.in_default.ensures.none, c.in_ok-make_room.ensures.room)

pub returns-in_err-send_on-clause-reads_on : goal.returns-in_err-send_on-clause-reads_on
returns-in_err-send_on-clause-reads_on g c = then_reads c.loop.invariant.reads_on c.in_ok-make_room.ensures.reads_on

pub returns-in_err-send_on-clause-taken : goal.returns-in_err-send_on-clause-taken
returns-in_err-send_on-clause-taken g c =
    ok_of_err c.from_residual-in_err-send_on.result _ c.from_residual-in_err-send_on.ensures.0

pub returns-in_err-send_on-clause-outcome : goal.returns-in_err-send_on-clause-outcome
returns-in_err-send_on-clause-outcome g c = λ aim start.
    let h = c.in_ok-make_room.ensures.outcome aim (c.loop.invariant.reads aim start) in
    let block = c.in-Some-take.block in
    let n = gives_next h.cuts.fed block (c.in-Some-take.ensures.next h.cuts.fed h.cuts.cut) in
    let out' = g.W.Sink.stream c.send_on.new.out in
    let fault = c.in_err-send_on.field-0.0 in
    fails_by c.from_residual-in_err-send_on.result _ _ c.from_residual-in_err-send_on.ensures.1
    (next_breaks h block out' fault n
    (c.in_err-send_on.ensures.keeps aim _
    (c.in_ok-search.ensures aim h.steps (h.holds, next_may h.cuts block n)).0))
