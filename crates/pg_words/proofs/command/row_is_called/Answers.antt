use Rattle.pg_words.proofs.Table.{called_here, called_next}
use Rattle.pg_words.proofs.command.row_is_called.Goals as goal

pub returns-then-is_called : goal.returns-then-is_called
returns-then-is_called c =
    called_here c.args.rows.now c.loop-row.row-index _ c.args.name.now c.is_called.result c.loop-row-test.true
    c.is_called.ensures c.if-is_called.true c.loop-row.invariant

pub loop-row-preserved : goal.loop-row-preserved
loop-row-preserved c =
    called_next c.args.rows.now c.loop-row.row-index _ c.args.name.now c.is_called.result c.loop-row-test.true
    c.is_called.ensures c.if-is_called.false c.loop-row.invariant
