use Rattle.pg_words.proofs.Table.{name_here, name_next}
use Rattle.pg_words.proofs.command.row_of_name_has_value.Goals as goal

pub returns-then-is_called : goal.returns-then-is_called
returns-then-is_called c =
    name_here c.args.rows.now c.loop-row.row-index _ c.args.name.now c.is_called.result c.has_value.result
    c.loop-row-test.true c.is_called.ensures c.if-is_called.true c.has_value.ensures c.loop-row.invariant

pub loop-row-preserved : goal.loop-row-preserved
loop-row-preserved c =
    name_next c.args.rows.now c.loop-row.row-index _ c.args.name.now c.is_called.result c.loop-row-test.true
    c.is_called.ensures c.if-is_called.false c.loop-row.invariant
