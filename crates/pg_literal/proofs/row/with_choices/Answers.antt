use Rattle.std.proofs.Common.{map}
use Rattle.pg_pattern.specs.Strings.{items_of}
use Rattle.pg_literal.proofs.RowLemmas.{longer_more}
use Rattle.pg_literal.proofs.row.with_choices.Goals as goal

pub loop-text-preserved : goal.loop-text-preserved
loop-text-preserved g c =
    longer_more c.args.choices.now c.args.texts.now c.loop-text.text-index c.text-item.result c.deref.result.now
    (map items_of c.loop-text.longer.items) (map items_of c.push_longer.new.texts.items) c.loop-text-test.true
    c.text-item.is c.deref.ensures.value c.loop-text.invariant c.in_ok-push_longer.ensures
