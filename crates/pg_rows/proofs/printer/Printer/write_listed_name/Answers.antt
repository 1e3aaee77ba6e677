use Rattle.std.proofs.Common.{◌++◌, ◌∷◌, [], nat_lt, sym, ap, ◌∙◌}
use Rattle.pg_rows.specs.Modes.{is_named}
use Rattle.pg_rows.specs.Output.{name_mark, name_text, when}
use Rattle.pg_base.proofs.WriteLemmas.{wrote_none, writes_as}
use Rattle.pg_rows.proofs.printer.Printer.write_listed_name.Goals as goal

pub returns-then-is_named : goal.returns-then-is_named
returns-then-is_named g c =
    let s = c.args.self.now in
    let row = name_text s.format s.prefix ++ name_mark s.format 10 ∷ [] in
    writes_as row (when (is_named s.format.mode (nat_lt 0 s.progress.kept)) row) _ _ _
    (ap (λ t. when t row) (sym c.if-is_named.true ∙ c.is_named.ensures)) c.write_name.ensures

pub returns-else-is_named : goal.returns-else-is_named
returns-else-is_named g c =
    let s = c.args.self.now in
    let row = name_text s.format s.prefix ++ name_mark s.format 10 ∷ [] in
    writes_as [] (when (is_named s.format.mode (nat_lt 0 s.progress.kept)) row) _ _ _
    (ap (λ t. when t row) (sym c.if-is_named.false ∙ c.is_named.ensures))
    (record { ok = wrote_none (g.W.Sink.stream c.args.out.now); err = tt })
