use Rattle.std.proofs.Common.{◌≡◌, Ok}
use Rattle.pg_reader.specs.Going.{HasGoneOn}
use Rattle.pg_round.specs.Receipts.{HasReceived, TakesResults}
use Rattle.pg_round.proofs.receiving.take_all.Given as goal

abbrev pub invariant-loop : goal.invariant-loop
invariant-loop g l = record {
  more : (goal.iterator-loop g).can_next l.iterator' × (goal.iterator-loop g).is_finite l.iterator';
  tray : l.take.tray ≡ l.tray;
  workers : l.take.workers ≡ l.initial.take.workers;
  took : TakesResults {T = Unit {0}} (Ok tt) (g.S.Collector.stands l.initial.collector)
      (HasReceived (g.S.Collector.stands l.collector) l.take.taken) (g.W.Sink.stream l.initial.out)
      (g.W.Sink.stream l.out);
  read : HasGoneOn g.D.Reader.ready g.D.Reader.reaches l.initial.reader l.initial.from l.reader l.from;
}
