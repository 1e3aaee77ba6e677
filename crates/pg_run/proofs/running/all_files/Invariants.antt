use Rattle.std.proofs.Common.{◌≡◌, true, false, []}
use Rattle.pg_rows.specs.Modes.{is_quiet}
use Rattle.pg_files.specs.Given.{entries_given}
use Rattle.pg_run.specs.Outcome.{EndsAtSelected}
use Rattle.pg_run.specs.Holding.{Aim, format_of}
use Rattle.pg_run.specs.Reading.{HasToldAll}
use Rattle.pg_run.proofs.running.all_files.Given as goal

abbrev pub invariant-loop : goal.invariant-loop
invariant-loop g l =
    let out = g.W.Sink.stream l.out in
    let told = g.E.Sink.stream l.faults in
    let out' = g.W.Sink.stream l.initial.out in
    let told' = g.E.Sink.stream l.initial.faults in
    let past = g.F.Files.past l.files in
    record {
      can_next : (goal.iterator-loop g).can_next l.iterator';
      is_finite : (goal.iterator-loop g).is_finite l.iterator';
      done : past.done ≡ false;
      same_list : g.F.Files.list l.files ≡ g.F.Files.list l.initial.files;
      rests : (aim : Aim) → HasToldAll l.initial.engine aim [] out' told' → HasToldAll l.engine aim past.given out told
          × (is_quiet (format_of aim).mode ≡ true → EndsAtSelected aim.query (entries_given past.given));
    }
