use Rattle.std.proofs.Common.{not, sym, ap}
use Rattle.std.proofs.lemmas.Bool.{and_from}
use Rattle.pg_rows.specs.Modes.{shows_rows}
use Rattle.pg_rows.proofs.printer.Printer.print.Goals as goal

pub print_parts-requires-clause-shows : goal.print_parts-requires-clause-shows
print_parts-requires-clause-shows g c =
    let f = c.args.self.now.format in
    and_from (shows_rows f.mode) f.parts (sym c.if-not-shows_rows.ensures) c.if-self.true

pub print_lines-requires-clause-shows : goal.print_lines-requires-clause-shows
print_lines-requires-clause-shows g c =
    let f = c.args.self.now.format in
    and_from (shows_rows f.mode) (not f.parts) (sym c.if-not-shows_rows.ensures) (ap not c.if-self.false)
