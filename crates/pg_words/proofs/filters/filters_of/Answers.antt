use Rattle.pg_words.proofs.FilterWords.{filters_pass}
use Rattle.pg_words.proofs.Passes.{all_said, begins, one_more}
use Rattle.pg_words.proofs.filters.filters_of.Goals as goal

pub loop-word-init : goal.loop-word-init
loop-word-init c = rw c.new-filters.ensures.items (begins filters_pass c.words_before_mark-word-items.ensures)

pub loop-word-preserved : goal.loop-word-preserved
loop-word-preserved c =
    one_more filters_pass c.loop-word.invariant c.loop-word-test.true c.word-item.is c.as_str.ensures.value
    c.in_ok-add_filter.ensures

pub returns : goal.returns
returns c = all_said filters_pass c.loop-word.invariant c.loop-word-test.false
