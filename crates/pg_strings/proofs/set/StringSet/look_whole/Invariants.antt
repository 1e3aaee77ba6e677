use Rattle.std.proofs.Common.{◌≤◌, ◌+◌, take, map}
use Rattle.std.specs.List.{sum_by}
use Rattle.pg_pattern.specs.Strings.{items_of}
use Rattle.pg_strings.specs.Whole.{IsPrefixHash}
use Rattle.pg_strings.proofs.WholeLemmas.{NoneOf}
use Rattle.pg_strings.proofs.set.StringSet.look_whole.Given as goal

abbrev pub invariant-loop-at : goal.invariant-loop-at
invariant-loop-at g l = record {
  prefix : IsPrefixHash l.bytes l.place l.prefix;
  none : NoneOf (map items_of l.self.strings.items) l.bounds l.bytes l.place l.whole.lengths.items l.at;
  less : l.budget.left ≤ l.fn.budget.left;
  cost : l.fn.budget.left ≤ l.budget.left + sum_by (λ len. 1 + len) (take l.at l.whole.lengths.items);
}
