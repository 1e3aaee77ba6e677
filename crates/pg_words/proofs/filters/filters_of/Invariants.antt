use Rattle.std.proofs.Common.{[]}
use Rattle.pg_words.specs.Filters.{filters_of}
use Rattle.pg_words.proofs.FilterWords.{filters_after}
use Rattle.pg_words.proofs.Passes.{Goes}
use Rattle.pg_words.proofs.filters.filters_of.Given as goal

abbrev pub invariant-loop-word : goal.invariant-loop-word
invariant-loop-word l = Goes filters_after [] l.words l.word-items l.word-index (filters_of l.filters.items)
