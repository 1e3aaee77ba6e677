use Rattle.std.proofs.Common.{◌≡◌, ◌++◌, List, Ok}
use Rattle.pg_selection.specs.Searched.{SearchedBlock}
use Rattle.pg_round.specs.Receipts.{HasReceived, TakesResults}
use Rattle.pg_round.proofs.receiving.deliver.Given as goal

abbrev pub invariant-loop : goal.invariant-loop
invariant-loop g l = record {
  more : (goal.iterator-loop g).can_next l.iterator' × (goal.iterator-loop g).is_finite l.iterator';
  lists : l.delivered.lists ≡ l.fn.delivered.lists;
  got : (rs : List SearchedBlock) × (l.delivered.out ≡ l.fn.delivered.out ++ rs)
      × TakesResults {T = Unit {0}} (Ok tt) (g.S.Collector.stands l.initial.collector)
      (HasReceived (g.S.Collector.stands l.collector) rs)
      (g.W.Sink.stream l.initial.out) (g.W.Sink.stream l.out);
}
