use Rattle.std.proofs.Common.{◌++◌, sym, ap, ◌∙◌}
use Rattle.pg_blocks.specs.Lines.{lines, terminated}
use Rattle.pg_rows.specs.Stretch.{marked_rows, plain, prefix_text}
use Rattle.pg_rows.proofs.RowLemmas.{marked_one}
use Rattle.pg_base.proofs.WriteLemmas.{part_of_first, writes_part, writes_then, writes_as}
use Rattle.pg_rows.proofs.rows.write_line.Goals as goal

pub returns-in_err-write-clause-writes : goal.returns-in_err-write-clause-writes
returns-in_err-write-clause-writes g c =
    let a = c.args in
    let ls = lines a.end a.line.now in
    let rows = marked_one a.format.now a.end a.prefix.now a.mark a.at.number a.at.offset ls c.requires
    ∙ ap (λ b. prefix_text a.format.now a.prefix.now a.at.number a.at.offset a.mark b ++ terminated a.end ls)
    (sym c.has_text.ensures) in
    let front = prefix_text a.format.now a.prefix.now a.at.number a.at.offset a.mark c.has_text.result in
    let text = terminated a.end ls in
    writes_as (front ++ text) (marked_rows a.format.now a.end a.prefix.now a.mark plain a.at.number a.at.offset ls) _
    _ _ (sym rows)
    (writes_part (front ++ text) _ _ c.from_residual.result c.from_residual.ensures.0
    (part_of_first front text _ _ c.in_err-write.ensures.writes.err))

pub returns-clause-writes : goal.returns-clause-writes
returns-clause-writes g c =
    let a = c.args in
    let ls = lines a.end a.line.now in
    let rows = marked_one a.format.now a.end a.prefix.now a.mark a.at.number a.at.offset ls c.requires
    ∙ ap (λ b. prefix_text a.format.now a.prefix.now a.at.number a.at.offset a.mark b ++ terminated a.end ls)
    (sym c.has_text.ensures) in
    let front = prefix_text a.format.now a.prefix.now a.at.number a.at.offset a.mark c.has_text.result in
    let text = terminated a.end ls in
    writes_as (front ++ text) (marked_rows a.format.now a.end a.prefix.now a.mark plain a.at.number a.at.offset ls) _
    _ _ (sym rows)
    (writes_then front text _ _ _ _ c.in_ok-write.ensures.writes.ok c.write_bare_lines.ensures)
