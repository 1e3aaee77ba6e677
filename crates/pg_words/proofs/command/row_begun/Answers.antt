use Rattle.std.proofs.Common.{◌∙◌, sym}
use Rattle.pg_words.proofs.Table.{all_rows_seen, begun_again, begun_next, not_begun_next}
use Rattle.pg_words.proofs.command.row_begun.Goals.{then-begins+else-is_some, else-begins}
use Rattle.pg_words.proofs.command.row_begun.Goals as goal

pub returns-then-is_some : goal.returns-then-is_some
returns-then-is_some c =
    begun_again c.args.rows.now c.loop-row.row-index _ c.args.start.now c.begins.result c.loop-row-test.true
    c.begins.ensures c.loop-row.only c.if-begins.true (sym c.is_some.ensures ∙ c.if-is_some.true) c.loop-row.invariant

pub loop-row-preserved : goal.loop-row-preserved
loop-row-preserved c =
    let rows = c.args.rows.now in
    let start = c.args.start.now in
    elim c.if-begins.branch [
      | then-begins+else-is_some w ↦ rw w.only-is (begun_next rows c.loop-row.row-index _ start c.begins.result
          c.loop-row-test.true c.begins.ensures c.loop-row.only w.if-begins.true
          (sym w.is_some.ensures ∙ w.if-is_some.false) c.loop-row.invariant)
      | else-begins w ↦ rw w.only-is (not_begun_next rows c.loop-row.row-index _ start c.begins.result
          c.loop-row-test.true c.begins.ensures c.loop-row.only w.if-begins.false c.loop-row.invariant)
    ]

pub returns : goal.returns
returns c =
    all_rows_seen c.args.rows.now c.loop-row.row-index c.args.start.now c.loop-row.only c.loop-row-test.false
    c.loop-row.invariant
