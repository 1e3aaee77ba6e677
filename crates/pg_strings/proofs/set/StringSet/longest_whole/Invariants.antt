use Rattle.std.proofs.Common.{map}
use Rattle.pg_pattern.specs.Strings.{items_of}
use Rattle.pg_strings.specs.Whole.{IsPrefixHash}
use Rattle.pg_strings.proofs.WholeLemmas.{IsLongestOf}
use Rattle.pg_strings.proofs.set.StringSet.longest_whole.Given as goal

abbrev pub invariant-loop-at : goal.invariant-loop-at
invariant-loop-at g l = record {
  prefix : IsPrefixHash l.bytes l.place l.prefix;
  longest : IsLongestOf (map items_of l.self.strings.items) l.bounds l.bytes l.place l.whole.lengths.items l.at
      l.longest;
}
