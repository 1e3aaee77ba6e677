use Rattle.std.proofs.Common.{◌≤◌, ◌↔◌}
use Rattle.pg_pattern.specs.Patterns.{IsProper}
use Rattle.pg_pattern.specs.Trees.{pattern}
use Rattle.pg_pattern.specs.declared.tree.Tree.{size-Tree}
use Rattle.pg_pattern.proofs.tree.Tree.+is_proper.Given as goal

abbrev pub decreases-is_proper : goal.decreases-is_proper
decreases-is_proper g l = goal.size-is_proper g l

abbrev pub invariant-loop-tree : goal.invariant-loop-tree
invariant-loop-tree g l = record {
  below : size-Tree _ l.tree ≤ size-Tree _ l.fn.self;
  same : IsProper (pattern l.fn.self) ↔ IsProper (pattern l.tree);
}
