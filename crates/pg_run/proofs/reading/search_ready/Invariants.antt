use Rattle.pg_run.specs.Holding.{Aim}
use Rattle.pg_reader.specs.Reads.{OnlyReadsOn}
use Rattle.pg_run.specs.Reading.{IsInsideFile}
use Rattle.pg_run.proofs.reading.search_ready.Given as goal

abbrev pub invariant-loop : goal.invariant-loop
invariant-loop g l =
    let now = g.W.Sink.stream l.out in
    let start = g.W.Sink.stream l.initial.out in
    let past = g.F.Files.past l.files in
    let past' = g.F.Files.past l.initial.files in
    record {
      can_next : (goal.iterator-loop g).can_next l.iterator';
      is_finite : (goal.iterator-loop g).is_finite l.iterator';
      reads_on : OnlyReadsOn g.F.Files.past g.F.Files.list l.initial.files l.files;
      reads : (aim : Aim) → IsInsideFile l.initial.reader l.initial.engine aim past'.given start
          → IsInsideFile l.reader l.engine aim past.given now;
    }
