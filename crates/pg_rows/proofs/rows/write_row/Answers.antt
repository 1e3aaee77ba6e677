use Rattle.std.proofs.Common.{◌++◌, ◌∷◌, [], List, ℕ, sym, ap, ◌∙◌}
use Rattle.pg_rows.specs.Colors.{in_color, part_color}
use Rattle.pg_rows.specs.Output.{row}
use Rattle.pg_rows.specs.Stretch.{prefix_text}
use Rattle.pg_rows.proofs.RowLemmas.{row_is}
use Rattle.pg_base.proofs.WriteLemmas.{part_of_first, writes_part, writes_then, writes_as}
use Rattle.pg_rows.proofs.rows.write_row.Goals as goal

pub returns-in_err-write-clause-writes : goal.returns-in_err-write-clause-writes
returns-in_err-write-clause-writes g c =
    let a = c.args in
    let shown = in_color a.format.now.colored part_color a.text.now in
    let text : List ℕ = shown ++ a.end ∷ [] in
    let front = prefix_text a.format.now a.prefix.now a.at.number a.at.offset a.mark c.has_part_text.result in
    let rows = row_is a.format.now a.end a.prefix.now a.at.number a.at.offset a.mark shown
    ∙ ap (λ b. prefix_text a.format.now a.prefix.now a.at.number a.at.offset a.mark b ++ text)
    (sym c.has_part_text.ensures) in
    writes_as (front ++ text) (row a.format.now a.end a.prefix.now a.at.number a.at.offset a.mark shown) _ _ _
    (sym rows)
    (writes_part (front ++ text) _ _ c.from_residual.result c.from_residual.ensures.0
    (part_of_first front text _ _ c.in_err-write.ensures.writes.err))

pub returns-clause-writes : goal.returns-clause-writes
returns-clause-writes g c =
    let a = c.args in
    let shown = in_color a.format.now.colored part_color a.text.now in
    let text : List ℕ = shown ++ a.end ∷ [] in
    let front = prefix_text a.format.now a.prefix.now a.at.number a.at.offset a.mark c.has_part_text.result in
    let rows = row_is a.format.now a.end a.prefix.now a.at.number a.at.offset a.mark shown
    ∙ ap (λ b. prefix_text a.format.now a.prefix.now a.at.number a.at.offset a.mark b ++ text)
    (sym c.has_part_text.ensures) in
    writes_as (front ++ text) (row a.format.now a.end a.prefix.now a.at.number a.at.offset a.mark shown) _ _ _
    (sym rows)
    (writes_then front text _ _ _ _ c.in_ok-write.ensures.writes.ok c.write_part_text.ensures)
