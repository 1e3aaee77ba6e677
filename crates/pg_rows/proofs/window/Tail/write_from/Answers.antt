use Rattle.std.proofs.Common.{List, ℕ, drop, length, ap, arith}
use Rattle.pg_rows.specs.Output.{bytes_in}
use Rattle.pg_rows.specs.Stretch.{marked_rows, plain}
use Rattle.pg_rows.specs.Window.{tail_lines}
use Rattle.pg_rows.proofs.SizeLemmas.{size_enough}
use Rattle.pg_base.proofs.WriteLemmas.{writes_as}
use Rattle.pg_rows.proofs.window.Tail.write_from.Goals as goal

pub returns-clause-writes : goal.returns-clause-writes
returns-clause-writes g c =
    let a = c.args in
    let rows = λ (ls : List (List ℕ)). marked_rows a.format.now a.end a.prefix.now 45 plain a.first.number
    a.first.offset ls in
    writes_as _ (rows (drop a.skip (tail_lines a.end a.self.now))) _ _ _ (ap rows c.text_from-text.ensures)
    (record { ok = c.in_ok-write_lines.ensures.writes.ok; err = tt })

pub write_lines-requires : goal.write_lines-requires
write_lines-requires g c =
    let text = c.text_from-text in
    let count = ap (λ ls. length ls) text.ensures in
    let enough = size_enough c.args.end text.result.now in
    let same = ap bytes_in text.ensures in
    record {
      small = omega (arith, count, c.requires.fits.small);
      placed = omega (arith, enough, same, c.requires.fits.placed);
    }
