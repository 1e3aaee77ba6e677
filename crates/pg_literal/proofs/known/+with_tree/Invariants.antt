use Rattle.std.proofs.Common.{◌≤◌, Bool}
use Rattle.pg_pattern.specs.Trees.{pattern}
use Rattle.pg_pattern.specs.declared.tree.Tree.{size-Tree}
use Rattle.pg_literal.specs.Known.{Extends}
use Rattle.pg_literal.specs.declared.known.MatchFacts.{MatchFacts}
use Rattle.pg_literal.proofs.known.+with_tree.Given as goal

abbrev pub decreases-with_tree : goal.decreases-with_tree
decreases-with_tree g l = goal.size-with_tree g l

abbrev pub invariant-loop-tree : goal.invariant-loop-tree
invariant-loop-tree g l = record {
  below : size-Tree _ l.tree ≤ size-Tree _ l.fn.tree;
  whole : (fold : Bool) (whole : MatchFacts _) → Extends fold (pattern l.tree) l.known whole
      → Extends fold (pattern l.fn.tree) l.fn.known whole;
}
