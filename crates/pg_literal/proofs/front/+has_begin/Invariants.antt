use Rattle.std.proofs.Common.{◌≤◌}
use Rattle.pg_pattern.specs.Trees.{pattern}
use Rattle.pg_pattern.specs.declared.tree.Tree.{size-Tree}
use Rattle.pg_literal.specs.Rests.{HasNoBegin}
use Rattle.pg_literal.proofs.front.+has_begin.Given as goal

abbrev pub decreases-has_begin : goal.decreases-has_begin
decreases-has_begin g l = goal.size-has_begin g l

abbrev pub invariant-loop-tree : goal.invariant-loop-tree
invariant-loop-tree g l = record {
  below : size-Tree _ l.tree ≤ size-Tree _ l.fn.tree;
  whole : HasNoBegin (pattern l.tree) → HasNoBegin (pattern l.fn.tree);
}
