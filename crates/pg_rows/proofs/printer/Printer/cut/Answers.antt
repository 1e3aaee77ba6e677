use Rattle.std.proofs.Common.{sym, ap, ◌∙◌}
use Rattle.pg_selection.specs.Search.{terminator}
use Rattle.pg_blocks.specs.Lines.{lines}
use Rattle.pg_rows.specs.Pieces.{cut_at}
use Rattle.pg_rows.proofs.PieceLemmas.{cut_unlimited, no_limit}
use Rattle.pg_rows.proofs.printer.Printer.cut.Goals as goal

pub returns-in-None-clause-value : goal.returns-in-None-clause-value
returns-in-None-clause-value g c q bytes has =
    let s = c.args.self.now in
    let ls = lines (terminator q) bytes in
    let none = no_limit s.format.limit s.progress.kept c.in-None.ensures in
    has.total ∙ sym (ap (λ limit. cut_at q limit s.progress.kept ls) none ∙ cut_unlimited q s.progress.kept ls)
