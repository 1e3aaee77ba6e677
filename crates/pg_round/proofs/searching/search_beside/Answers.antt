use Rattle.std.proofs.Common.{Result, Ok, List, refl, sym, subst, arith}
use Rattle.std.proofs.lemmas.List.Elements.{All-weaker}
use Rattle.std.proofs.lemmas.Result.{err_from_is_err_and}
use Rattle.pg_selection.specs.Searched.{SearchedBlock}
use Rattle.pg_workers.specs.Workers.{task_of, HasWorked, HasFinished, AreBack}
use Rattle.pg_round.specs.Receipts.{HasReceived, TakesResults}
use Rattle.pg_round.specs.declared.fault.RoundFault.{RoundFault}
use Rattle.pg_reader.proofs.GoingLemmas.{gone_on_none}
use Rattle.pg_round.proofs.ReceiptLemmas.{takes_none, takes_fault, takes_value}
use Rattle.pg_round.proofs.searching.search_beside.Goals as goal

pub returns-then-len-lt2 : goal.returns-then-len-lt2
unfolding AreBack
returns-then-len-lt2 g c =
    let stands = g.S.Collector.stands c.args.collector.now in let before = g.W.Sink.stream c.args.out.now in
    let t = task_of g.Q.BlockSearch.seen c.args.round in
    record {
      back = (refl, All-weaker (HasFinished t) (HasWorked t) (λ w h. h.0) c.args.workers.items c.requires.finished);
      same = (c.requires.take.0, refl);
      took = subst (λ (l : List SearchedBlock). TakesResults (Ok c.args.workers) stands (HasReceived stands l) before
          before)
          (sym c.requires.take.1) (takes_none stands c.args.workers before);
      read = gone_on_none c.requires.reader;
    }

pub returns-in_err-taken : goal.returns-in_err-taken
returns-in_err-taken g c =
    let p = err_from_is_err_and c.from_residual.result c.from_residual.ensures.1 in
    let e = c.stream-back.ensures in
    let stands = g.S.Collector.stands c.args.collector.now in
    let took = HasReceived (g.S.Collector.stands c.stream-back.new.collector) c.stream-back.new.take.taken in
    let before = g.W.Sink.stream c.args.out.now in let after = g.W.Sink.stream c.stream-back.new.out in
    rw (p.1, p.2) (record {
      back = tt;
      same = e.same;
      took = takes_fault stands _ took took before after
          (subst (λ (r : Result (Unit {0}) RoundFault). TakesResults r stands took before after) c.in_err-taken.was
          e.took);
      read = e.read;
    })

pub returns-clause-took : goal.returns-clause-took
returns-clause-took g c =
    let stands = g.S.Collector.stands c.args.collector.now in
    let took = HasReceived (g.S.Collector.stands c.stream-back.new.collector) c.stream-back.new.take.taken in
    let before = g.W.Sink.stream c.args.out.now in let after = g.W.Sink.stream c.stream-back.new.out in
    takes_value stands _ _ took before after
    (subst (λ (r : Result (Unit {0}) RoundFault). TakesResults r stands took before after) c.in_ok-taken.was
    c.stream-back.ensures.took)

pub stream-back-requires-clause-ready : goal.stream-back-requires-clause-ready
stream-back-requires-clause-ready g c κs within = c.requires.ready

pub stream-back-requires-clause-finished : goal.stream-back-requires-clause-finished
stream-back-requires-clause-finished g c κs within =
    (c.requires.finished, (let n = c.if-len-lt2.false in let l = c.len.ensures in omega arith))

pub stream-back-requires-clause-take : goal.stream-back-requires-clause-take
stream-back-requires-clause-take g c κs within = c.requires.take

pub stream-back-requires-clause-reader : goal.stream-back-requires-clause-reader
stream-back-requires-clause-reader g c κs within = c.requires.reader

pub stream-back-requires-clause-sees : goal.stream-back-requires-clause-sees
stream-back-requires-clause-sees g c κs within = c.requires.sees
