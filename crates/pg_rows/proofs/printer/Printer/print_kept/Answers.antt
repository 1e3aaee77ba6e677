use Rattle.std.proofs.Common.{ℕ, ◌-◌, List, length, take, drop, ap, ◌∙◌}
use Rattle.std.proofs.lemmas.List.{take_rest}
use Rattle.pg_blocks.specs.Lines.{lines}
use Rattle.pg_rows.specs.Output.{painted}
use Rattle.pg_rows.specs.Stretch.{marked_rows, plain}
use Rattle.pg_rows.proofs.PaintLemmas.{plain_texts}
use Rattle.pg_base.proofs.WriteLemmas.{writes_as}
use Rattle.pg_rows.proofs.printer.Printer.print_kept.Goals as goal

pub returns-clause-writes : goal.returns-clause-writes
returns-clause-writes g c q told =
    let a = c.args in
    let s = a.self.now in
    let rows : (List ℕ → List ℕ) → List (List ℕ) → List ℕ =
    λ text ls. marked_rows s.format s.end s.prefix 58 text a.first.number a.first.offset ls in
    let text = drop a.from a.bytes.now in
    writes_as (rows plain (lines s.end (take (length a.bytes.now - a.from) text)))
    (rows (painted q s.format) (lines s.end text)) _ _ _
    (ap (λ xs. rows plain (lines s.end xs)) (take_rest a.bytes.now a.from)
    ∙ plain_texts q s.format s.end s.prefix 58 a.first.number a.first.offset (lines s.end text) c.if-self.false)
    c.write_lines.ensures.writes
