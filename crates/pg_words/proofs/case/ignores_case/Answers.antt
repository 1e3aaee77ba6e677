use Rattle.pg_words.proofs.Cases.{case_passes}
use Rattle.pg_words.proofs.Passes.{all_said, begins, one_more}
use Rattle.pg_words.proofs.case.ignores_case.Goals as goal

pub loop-word-init : goal.loop-word-init
loop-word-init c = begins case_passes c.words_before_mark-word-items.ensures

pub loop-word-preserved : goal.loop-word-preserved
loop-word-preserved c =
    one_more case_passes c.loop-word.invariant c.loop-word-test.true c.word-item.is c.as_str.ensures.value
    c.case_behind-ignored.ensures

pub returns : goal.returns
returns c = all_said case_passes c.loop-word.invariant c.loop-word-test.false
