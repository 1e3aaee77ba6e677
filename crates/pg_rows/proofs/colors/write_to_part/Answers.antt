use Rattle.std.proofs.Common.{◌++◌, true, List, ℕ, slice_range, ap}
use Rattle.pg_rows.specs.Colors.{in_color, part_color}
use Rattle.pg_base.proofs.WriteLemmas.{part_of_first, writes_part, writes_then, writes_as}
use Rattle.pg_rows.proofs.colors.write_to_part.Goals as goal

pub returns-in_err-write_all : goal.returns-in_err-write_all
returns-in_err-write_all g c =
    let a = c.args in
    let first = slice_range a.bytes.now a.at a.part.span.start in
    let second = in_color true part_color (slice_range a.bytes.now a.part.span.start a.part.span.end) in
    writes_part (first ++ second) _ _ c.from_residual.result c.from_residual.ensures.0
    (part_of_first first second _ _ c.in_err-write_all.ensures.writes.err)

pub returns : goal.returns
returns g c =
    let a = c.args in
    let first = slice_range a.bytes.now a.at a.part.span.start in
    let second : List ℕ → List ℕ = in_color true part_color in
    let part = slice_range a.bytes.now a.part.span.start a.part.span.end in
    writes_then first (second part) _ _ _ _ c.in_ok-write_all.ensures.writes.ok
    (writes_as (second c.of.result.now) (second part) _ _ _ (ap second c.of.ensures) c.write_in_color.ensures)
