use Rattle.std.proofs.Common.{◌≡◌, ◌+◌, ◌*◌, ◌≤◌, min}
use Rattle.pg_pattern.specs.Patterns.{IsProper}
use Rattle.pg_pattern.specs.Trees.{pattern}
use Rattle.pg_pattern.specs.declared.tree.Tree.{size-Tree}
use Rattle.pg_match.specs.Sizes.{size_of}
use Rattle.pg_match.proofs.size.+size.Given as goal

abbrev pub decreases-size : goal.decreases-size
decreases-size g l = goal.size-size g l

abbrev pub invariant-loop-tree : goal.invariant-loop-tree
invariant-loop-tree g l = record {
  below : size-Tree _ l.tree ≤ size-Tree _ l.fn.tree;
  proper : IsProper (pattern l.tree);
  few : l.times ≤ 65537;
  small : l.total ≤ 65537;
  same : min (size_of (pattern l.fn.tree)) 65537 ≡ min (l.times * size_of (pattern l.tree) + l.total) 65537;
}
