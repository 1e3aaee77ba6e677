use Rattle.std.proofs.Common.{◌++◌, ◌∷◌, [], List, ℕ, sym, ap, ◌∙◌}
use Rattle.pg_rows.specs.Output.{row}
use Rattle.pg_rows.specs.Stretch.{prefix_text}
use Rattle.pg_rows.specs.Painting.{painted_bytes}
use Rattle.pg_rows.proofs.PaintLemmas.{painted_some}
use Rattle.pg_rows.proofs.RowLemmas.{row_is}
use Rattle.pg_base.proofs.WriteLemmas.{part_of_first, writes_part, writes_then, writes_as}
use Rattle.pg_rows.proofs.printer.Printer.print_painted_line.Goals as goal

pub returns-in_err-write-clause-writes : goal.returns-in_err-write-clause-writes
returns-in_err-write-clause-writes g c =
    let a = c.args in
    let s = a.self.now in
    let shown = painted_bytes a.bytes.now a.from a.to a.parts.now in
    let text : List ℕ = shown ++ s.end ∷ [] in
    let some = c.has_painted_text-has_text.ensures ∙ painted_some a.bytes.now a.from a.to a.parts.now
    c.requires.within in
    let front = prefix_text s.format s.prefix a.at.number a.at.offset 58 c.has_painted_text-has_text.result in
    let rows = row_is s.format s.end s.prefix a.at.number a.at.offset 58 shown
    ∙ ap (λ b. prefix_text s.format s.prefix a.at.number a.at.offset 58 b ++ text) (sym some) in
    writes_as (front ++ text) (row s.format s.end s.prefix a.at.number a.at.offset 58 shown) _ _ _ (sym rows)
    (writes_part (front ++ text) _ _ c.from_residual.result c.from_residual.ensures.0
    (part_of_first front text _ _ c.in_err-write.ensures.writes.err))

pub returns-clause-writes : goal.returns-clause-writes
returns-clause-writes g c =
    let a = c.args in
    let s = a.self.now in
    let shown = painted_bytes a.bytes.now a.from a.to a.parts.now in
    let text : List ℕ = shown ++ s.end ∷ [] in
    let some = c.has_painted_text-has_text.ensures ∙ painted_some a.bytes.now a.from a.to a.parts.now
    c.requires.within in
    let front = prefix_text s.format s.prefix a.at.number a.at.offset 58 c.has_painted_text-has_text.result in
    let rows = row_is s.format s.end s.prefix a.at.number a.at.offset 58 shown
    ∙ ap (λ b. prefix_text s.format s.prefix a.at.number a.at.offset 58 b ++ text) (sym some) in
    writes_as (front ++ text) (row s.format s.end s.prefix a.at.number a.at.offset 58 shown) _ _ _ (sym rows)
    (writes_then front text _ _ _ _ c.in_ok-write.ensures.writes.ok c.write_painted_text.ensures)
