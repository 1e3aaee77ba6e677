use Rattle.pg_words.specs.Line.{case_after}
use Rattle.pg_words.proofs.Passes.{Goes}
use Rattle.std.proofs.Common.{false}
use Rattle.pg_words.proofs.case.ignores_case.Given as goal

abbrev pub invariant-loop-word : goal.invariant-loop-word
invariant-loop-word l = Goes case_after false l.words l.word-items l.word-index l.ignored
