use Rattle.std.proofs.Common.{◌++◌}
use Rattle.pg_base.proofs.WriteLemmas.{part_of_first, writes_part, writes_then}
use Rattle.pg_rows.proofs.colors.write_both.Goals as goal

pub returns-in_err-write_all : goal.returns-in_err-write_all
returns-in_err-write_all g c =
    let first = c.args.first.now in
    let second = c.args.second.now in
    writes_part (first ++ second) _ _ c.from_residual.result c.from_residual.ensures.0
    (part_of_first first second _ _ c.in_err-write_all.ensures.writes.err)

pub returns : goal.returns
returns g c =
    writes_then c.args.first.now c.args.second.now _ _ _ _ c.in_ok-write_all.ensures.writes.ok
    c.write_all-2.ensures.writes
