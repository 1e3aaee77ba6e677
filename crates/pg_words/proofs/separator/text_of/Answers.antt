use Rattle.pg_words.proofs.Passes.{all_said, begins, one_more}
use Rattle.pg_words.proofs.SeparatorWords.{separator_passes}
use Rattle.pg_words.proofs.separator.text_of.Goals as goal

pub loop-word-init : goal.loop-word-init
loop-word-init c = begins separator_passes c.words_before_mark-word-items.ensures

pub loop-word-preserved : goal.loop-word-preserved
loop-word-preserved c =
    one_more separator_passes c.loop-word.invariant c.loop-word-test.true c.word-item.is c.as_str.ensures.value
    c.text_behind-last.ensures

pub returns : goal.returns
returns c = all_said separator_passes c.loop-word.invariant c.loop-word-test.false
