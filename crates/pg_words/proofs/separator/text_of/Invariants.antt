use Rattle.std.proofs.Common.{Some, codes, option_map}
use Rattle.pg_words.specs.Line.{separator_after}
use Rattle.pg_words.proofs.Passes.{Goes}
use Rattle.pg_words.proofs.separator.text_of.Given as goal

abbrev pub invariant-loop-word : goal.invariant-loop-word
invariant-loop-word l =
    Goes separator_after (Some (codes "--")) l.words l.word-items l.word-index (option_map (λ text. text.now) l.last)
