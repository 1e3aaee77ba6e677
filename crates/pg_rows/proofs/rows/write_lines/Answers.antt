use Rattle.pg_blocks.specs.Lines.{lines, terminated}
use Rattle.pg_rows.specs.Stretch.{marked_rows, plain}
use Rattle.pg_rows.proofs.RowLemmas.{marked_plain}
use Rattle.pg_base.proofs.WriteLemmas.{writes_as}
use Rattle.pg_rows.proofs.rows.write_lines.Goals as goal

pub returns-else-has_prefix-clause-writes : goal.returns-else-has_prefix-clause-writes
returns-else-has_prefix-clause-writes g c =
    let a = c.args in
    let ls = lines a.end a.text.now in
    writes_as (terminated a.end ls) (marked_rows a.format.now a.end a.prefix.now a.mark plain a.first.number
    a.first.offset ls) _ _ _
    (marked_plain a.format.now a.end a.prefix.now a.mark a.first.number a.first.offset ls c.has_prefix.result
    c.has_prefix.ensures
    c.if-has_prefix.false) c.write_bare_lines.ensures
