use Rattle.std.proofs.Common.{Ok, List, [], ◌∷◌, refl, sym, ◌∙◌, subst}
use Rattle.std.proofs.lemmas.Result.{err_from_is_err_and}
use Rattle.pg_selection.specs.Searched.{SearchedBlock}
use Rattle.pg_round.specs.Receipts.{HasReceived, TakesResults}
use Rattle.pg_round.proofs.ReceiptLemmas.{takes_none, takes_more}
use Rattle.pg_reader.proofs.GoingLemmas.{gone_on_none, gone_on_more}
use Rattle.pg_round.proofs.receiving.take_all.Goals as goal

pub loop-init : goal.loop-init
loop-init g c =
    let stands = g.S.Collector.stands c.args.collector.now in let before = g.W.Sink.stream c.args.out.now in
    record {
      more = (tt, tt);
      tray = c.requires.take.0;
      workers = refl;
      took = subst
          (λ (l : List SearchedBlock). TakesResults {T = Unit {0}} (Ok tt) stands (HasReceived stands l) before before)
          (sym c.requires.take.1) (takes_none stands tt before);
      read = gone_on_none c.requires.reader;
    }

pub loop-preserved-in-Some-take : goal.loop-preserved-in-Some-take
loop-preserved-in-Some-take g c =
    let i = c.loop.invariant in
    let took = c.in-Some-take.ensures in
    let mid = g.S.Collector.stands c.loop.collector in let last = g.S.Collector.stands c.receive.new.collector in
    record {
      more = (tt, tt);
      tray = took.tray.0;
      workers = took.tray.1 ∙ i.workers;
      took = takes_more _ tt mid c.loop.take.taken _ _ i.took _ last (c.in-Some-take.found ∷ []) _ _ took.some
          c.in_ok-receive-in-Some-take.ensures.took;
      read = i.read;
    }

pub loop-preserved : goal.loop-preserved
loop-preserved g c =
    let i = c.loop.invariant in
    let took = c.in-None-take.ensures in
    let stands = g.S.Collector.stands c.args.collector.now in let last = g.S.Collector.stands c.loop.collector in
    let before = g.W.Sink.stream c.args.out.now in let after = g.W.Sink.stream c.loop.out in
    record {
      more = (tt, tt);
      tray = took.tray.0;
      workers = took.tray.1 ∙ i.workers;
      took = subst (λ (l : List SearchedBlock). TakesResults {T = Unit {0}} (Ok tt) stands (HasReceived last l) before
          after)
          (sym took.none) i.took;
      read = gone_on_more i.read c.read_on-looks.ensures;
    }

pub returns-then-is_over : goal.returns-then-is_over
returns-then-is_over g c =
    let i = c.loop.invariant in
    let took = c.in-None-take.ensures in
    let stands = g.S.Collector.stands c.args.collector.now in let last = g.S.Collector.stands c.loop.collector in
    let before = g.W.Sink.stream c.args.out.now in let after = g.W.Sink.stream c.loop.out in
    record {
      same = (took.tray.0, took.tray.1 ∙ i.workers);
      took = subst (λ (l : List SearchedBlock). TakesResults {T = Unit {0}} (Ok tt) stands (HasReceived last l) before
          after)
          (sym took.none) i.took;
      fault = tt;
      read = i.read;
    }

pub returns-in_err-receive-in-Some-take : goal.returns-in_err-receive-in-Some-take
returns-in_err-receive-in-Some-take g c =
    let p = err_from_is_err_and c.from_residual.result c.from_residual.ensures.1 in
    let i = c.loop.invariant in
    let took = c.in-Some-take.ensures in
    let mid = g.S.Collector.stands c.loop.collector in let last = g.S.Collector.stands c.receive.new.collector in
    rw (p.1, p.2) (record {
      same = (took.tray.0, took.tray.1 ∙ i.workers);
      took = takes_more _ tt mid c.loop.take.taken _ _ i.took _ last (c.in-Some-take.found ∷ []) _ _ took.some
          c.in_err-receive-in-Some-take.ensures.took;
      fault = c.in_err-receive-in-Some-take.ensures.fault;
      read = i.read;
    })

pub receive-requires : goal.receive-requires
receive-requires g c = record { sees = c.requires.sees }
