use Rattle.std.proofs.Common.{◌≤◌, ◌<◌, length}
use Rattle.pg_pattern.specs.Patterns.{Pattern}
use Rattle.pg_pattern.specs.Trees.{pattern}
use Rattle.pg_pattern.specs.declared.tree.Tree.{size-Tree}
use Rattle.pg_literal.specs.Inner.{AreInnerTexts, IsPart}
use Rattle.pg_literal.proofs.inner.+inner_of.Given as goal

abbrev pub decreases-inner_of : goal.decreases-inner_of
decreases-inner_of g l = goal.size-inner_of g l

-- the tree is a part of the whole one, and the literals are of another part
abbrev pub invariant-loop-tree : goal.invariant-loop-tree
invariant-loop-tree g l = record {
  below : size-Tree _ l.tree ≤ size-Tree _ l.fn.tree;
  part : (outer : Pattern) → IsPart l.fold (pattern l.fn.tree) outer → IsPart l.fold (pattern l.tree) outer;
  best : (outer : Pattern) → IsPart l.fold (pattern l.fn.tree) outer
      → (0 < length l.fn.best.items → AreInnerTexts l.fold outer l.fn.best.items) → 0 < length l.best.items
      → AreInnerTexts l.fold outer l.best.items;
}
