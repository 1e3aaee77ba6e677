use Rattle.std.proofs.Common.{◌≤◌}
use Rattle.pg_pattern.specs.Trees.{pattern}
use Rattle.pg_pattern.specs.declared.tree.Tree.{size-Tree}
use Rattle.pg_literal.specs.Known.{MatchesEmpty}
use Rattle.pg_literal.proofs.known.+matches_empty.Given as goal

abbrev pub decreases-matches_empty : goal.decreases-matches_empty
decreases-matches_empty g l = goal.size-matches_empty g l

abbrev pub invariant-loop-tree : goal.invariant-loop-tree
invariant-loop-tree g l = record {
  below : size-Tree _ l.tree ≤ size-Tree _ l.fn.tree;
  whole : MatchesEmpty (pattern l.tree) → MatchesEmpty (pattern l.fn.tree);
}
