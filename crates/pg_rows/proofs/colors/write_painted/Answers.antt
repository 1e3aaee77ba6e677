use Rattle.std.proofs.Common.{◌+◌, ◌++◌, true, drop, get_or, slice_range}
use Rattle.pg_rows.specs.Colors.{in_color, part_color}
use Rattle.pg_rows.specs.Painting.{painted_bytes}
use Rattle.pg_rows.specs.Stretch.{no_part}
use Rattle.pg_rows.proofs.PaintLemmas.{painted_more}
use Rattle.pg_base.proofs.WriteLemmas.{writes_part, left_part}
use Rattle.pg_rows.proofs.colors.write_painted.Goals as goal

pub returns-in_err-write_to_part : goal.returns-in_err-write_to_part
returns-in_err-write_to_part g c =
    let a = c.args in
    let k = c.loop-part.part-index in
    let bytes = a.bytes.now in
    let parts = a.parts.now in
    let p = get_or parts k no_part in
    let at = c.loop-part.at in
    let text = slice_range bytes at p.span.start
    ++ in_color true part_color (slice_range bytes p.span.start p.span.end) in
    let whole = painted_bytes bytes a.from a.to parts in
    writes_part whole _ _ c.from_residual.result c.from_residual.ensures.0
    (left_part whole (painted_bytes bytes at a.to (drop k parts))
    (painted_bytes bytes p.span.end a.to (drop (k + 1) parts)) text _ _ _
    (painted_more bytes at a.to k parts no_part c.loop-part-test.true) c.in_err-write_to_part.ensures.err
    c.loop-part.invariant.left)
