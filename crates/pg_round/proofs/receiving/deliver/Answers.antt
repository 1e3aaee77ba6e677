use Rattle.std.proofs.Common.{List, [], ◌∷◌, ◌++◌, ap, refl, sym, ◌∙◌, subst, append-nil, append_assoc}
use Rattle.std.proofs.lemmas.Result.{err_from_is_err_and}
use Rattle.pg_selection.specs.Searched.{SearchedBlock}
use Rattle.pg_board.specs.Merge.{IsMerge}
use Rattle.pg_board.specs.Tray.{TrayRestView}
use Rattle.pg_round.specs.Receipts.{HasReceived, HasWritten}
use Rattle.pg_round.proofs.DrainLemmas.{drain_writes, drain_breaks}
use Rattle.pg_round.proofs.ReceiptLemmas.{takes_none, takes_more, takes_fault, takes_delivered}
use Rattle.pg_round.proofs.receiving.deliver.Goals as goal

pub loop-init : goal.loop-init
loop-init g c = record {
  more = (tt, tt);
  lists = refl;
  got = (
    [],
    sym (append-nil c.args.delivered.out),
    takes_none (g.S.Collector.stands c.args.collector.now) tt (g.W.Sink.stream c.args.out.now),
  );
}

pub loop-preserved : goal.loop-preserved
loop-preserved g c =
    let i = c.loop.invariant in
    let gave = c.in-Some-next.ensures.some in
    let found = c.in-Some-next.found ∷ [] in
    let mid = g.S.Collector.stands c.loop.collector in let last = g.S.Collector.stands c.receive.new.collector in
    record {
      more = (tt, tt);
      lists = ap (λ (v : TrayRestView SearchedBlock). v.lists) gave ∙ i.lists;
      got = (
        i.got.0 ++ found,
        ap (λ (v : TrayRestView SearchedBlock). v.out) gave ∙ ap (λ (l : List SearchedBlock). l ++ found) i.got.1
            ∙ append_assoc c.args.delivered.out i.got.0 found,
        takes_more _ tt mid i.got.0 _ _ i.got.2 _ last found (i.got.0 ++ found) _ refl
            c.in_ok-receive-in-Some-next.ensures.took,
      );
    }

pub returns-in_err-receive-in-Some-next-clause-took : goal.returns-in_err-receive-in-Some-next-clause-took
returns-in_err-receive-in-Some-next-clause-took g c =
    let p = err_from_is_err_and c.from_residual.result c.from_residual.ensures.1 in
    let i = c.loop.invariant in
    let found = c.in-Some-next.found ∷ [] in
    let mid = g.S.Collector.stands c.loop.collector in let last = g.S.Collector.stands c.receive.new.collector in
    rw (p.1, p.2) (takes_fault _ _ (HasReceived last (i.got.0 ++ found)) _ _ _
    (takes_more _ tt mid i.got.0 _ _ i.got.2 _ last found (i.got.0 ++ found) _ refl
    c.in_err-receive-in-Some-next.ensures.took))

pub returns-in_err-drain-in-None-next-clause-took : goal.returns-in_err-drain-in-None-next-clause-took
returns-in_err-drain-in-None-next-clause-took g c =
    let p = err_from_is_err_and c.from_residual-in_err-drain-in-None-next.result
    c.from_residual-in_err-drain-in-None-next.ensures.1 in
    let i = c.loop.invariant in
    let mid = g.S.Collector.stands c.loop.collector in let last = g.S.Collector.stands c.drain.new.self in
    let drain = c.in_err-drain-in-None-next.ensures in
    let merge = subst (λ (ls : List (List SearchedBlock)). IsMerge ls c.loop.delivered.out) i.lists
    c.in-None-next.ensures.none.1 in
    rw (p.1, p.2) (takes_delivered _ tt mid i.got.0 _ _ i.got.2 _ last c.args.delivered.lists c.args.delivered.out
    c.loop.delivered.out _ i.got.1 merge
    (drain_breaks _ mid last (HasWritten last []) _ _ drain.cause
    (λ past st. (drain.safe past st, drain.drained past st))))

pub returns-in-None-next-clause-took : goal.returns-in-None-next-clause-took
returns-in-None-next-clause-took g c =
    let i = c.loop.invariant in
    let mid = g.S.Collector.stands c.loop.collector in let last = g.S.Collector.stands c.drain.new.self in
    let drain = c.in_ok-drain-in-None-next.ensures in
    let merge = subst (λ (ls : List (List SearchedBlock)). IsMerge ls c.loop.delivered.out) i.lists
    c.in-None-next.ensures.none.1 in
    takes_delivered _ tt mid i.got.0 _ _ i.got.2 _ last c.args.delivered.lists c.args.delivered.out
    c.loop.delivered.out _ i.got.1 merge
    (drain_writes _ mid last _ _ drain.no_failure (λ past st. (drain.safe past st, drain.drained past st)))

pub receive-requires : goal.receive-requires
receive-requires g c = record { sees = c.requires.sees }
