use Rattle.std.proofs.Common.{[], sym, ap, ◌∙◌}
use Rattle.pg_rows.specs.Output.{gap_text, when}
use Rattle.pg_rows.specs.Printing.{gap_of}
use Rattle.pg_base.proofs.WriteLemmas.{wrote_none, writes_as}
use Rattle.pg_rows.proofs.printer.Printer.print_gap.Goals as goal

pub returns-then-has_gap : goal.returns-then-has_gap
returns-then-has_gap g c =
    let s = c.args.self.now in
    let row = gap_text s.format s.end in
    writes_as row (gap_of s.format s.end s.earlier c.args.progress) _ _ _
    (ap (λ t. when t row) (sym c.if-has_gap.true ∙ c.has_gap.ensures)) c.write_gap.ensures

pub returns-else-has_gap : goal.returns-else-has_gap
returns-else-has_gap g c =
    let s = c.args.self.now in
    let row = gap_text s.format s.end in
    writes_as [] (gap_of s.format s.end s.earlier c.args.progress) _ _ _
    (ap (λ t. when t row) (sym c.if-has_gap.false ∙ c.has_gap.ensures))
    (record { ok = wrote_none (g.W.Sink.stream c.args.out.now); err = tt })
