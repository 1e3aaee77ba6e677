use Rattle.std.proofs.Common.{◌++◌}
use Rattle.pg_blocks.specs.Lines.{lines}
use Rattle.pg_rows.specs.Window.{lines_held}
use Rattle.pg_rows.specs.Printing.{gap_of, rows_of_leading}
use Rattle.pg_base.proofs.WriteLemmas.{part_of_first, writes_part, writes_then}
use Rattle.pg_rows.proofs.printer.Printer.print_before.Goals as goal

pub returns-in_err-print_gap-clause-writes : goal.returns-in_err-print_gap-clause-writes
returns-in_err-print_gap-clause-writes g c =
    let a = c.args in
    let s = a.self.now in
    let hidden = lines_held s.end s.window ++ lines s.end a.near.now in
    let gap = gap_of s.format s.end s.earlier a.progress in
    let lead = rows_of_leading s.format s.end s.prefix hidden a.progress a.offset in
    writes_part (gap ++ lead) _ _ c.from_residual.result c.from_residual.ensures.0
    (part_of_first gap lead _ _ c.in_err-print_gap.ensures.err)

pub returns-clause-writes : goal.returns-clause-writes
returns-clause-writes g c =
    let a = c.args in
    let s = a.self.now in
    let hidden = lines_held s.end s.window ++ lines s.end a.near.now in
    let gap = gap_of s.format s.end s.earlier a.progress in
    let lead = rows_of_leading s.format s.end s.prefix hidden a.progress a.offset in
    writes_then gap lead _ _ _ _ c.in_ok-print_gap.ensures.ok c.print_leading.ensures.writes
