use Rattle.std.proofs.Common.{[], subst}
use Rattle.std.proofs.lemmas.Result.{err_from_is_err_and}
use Rattle.pg_selection.specs.Searched.{SearchedBlock}
use Rattle.pg_plan.specs.History.{arrived}
use Rattle.pg_round.specs.Receipts.{HasWritten}
use Rattle.pg_round.proofs.DrainLemmas.{drain_writes, drain_breaks}
use Rattle.pg_round.proofs.ReceiptLemmas.{takes_arrival}
use Rattle.pg_round.proofs.receiving.receive.Goals as goal

pub returns-in_err-drain-clause-took : goal.returns-in_err-drain-clause-took
returns-in_err-drain-clause-took g c =
    let p = err_from_is_err_and c.from_residual.result c.from_residual.ensures.1 in
    let mid = g.S.Collector.stands c.arrive.new.self in let last = g.S.Collector.stands c.drain.new.self in
    let before = g.W.Sink.stream c.args.out.now in let after = g.W.Sink.stream c.drain.new.out in
    let drain = c.in_err-drain.ensures in
    rw (p.1, p.2) (takes_arrival (g.S.Collector.stands c.args.collector.now) _ mid last c.args.found before after
    (λ past st. subst (λ (r : SearchedBlock). mid (arrived past r)) (c.requires.sees c.args.found)
    (c.arrive.ensures.stands past st))
    (drain_breaks _ mid last (HasWritten last []) before after drain.cause
    (λ past st. (drain.safe past st, drain.drained past st))))

pub returns-clause-took : goal.returns-clause-took
returns-clause-took g c =
    let mid = g.S.Collector.stands c.arrive.new.self in let last = g.S.Collector.stands c.drain.new.self in
    let before = g.W.Sink.stream c.args.out.now in let after = g.W.Sink.stream c.drain.new.out in
    let drain = c.in_ok-drain.ensures in
    takes_arrival (g.S.Collector.stands c.args.collector.now) _ mid last c.args.found before after
    (λ past st. subst (λ (r : SearchedBlock). mid (arrived past r)) (c.requires.sees c.args.found)
    (c.arrive.ensures.stands past st))
    (drain_writes _ mid last before after drain.no_failure (λ past st. (drain.safe past st, drain.drained past st)))
