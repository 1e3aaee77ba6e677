use Rattle.std.proofs.Common.{◌≤◌}
use Rattle.pg_pattern.specs.Trees.{pattern}
use Rattle.pg_pattern.specs.declared.tree.Tree.{size-Tree}
use Rattle.pg_literal.specs.Reaches.{HasNoAnchor}
use Rattle.pg_literal.proofs.reaches.+has_anchor.Given as goal

abbrev pub decreases-has_anchor : goal.decreases-has_anchor
decreases-has_anchor g l = goal.size-has_anchor g l

abbrev pub invariant-loop-tree : goal.invariant-loop-tree
invariant-loop-tree g l = record {
  below : size-Tree _ l.tree ≤ size-Tree _ l.fn.tree;
  whole : HasNoAnchor (pattern l.tree) → HasNoAnchor (pattern l.fn.tree);
}
