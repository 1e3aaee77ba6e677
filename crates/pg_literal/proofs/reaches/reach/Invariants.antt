use Rattle.std.specs.List.{AllWithin}
use Rattle.pg_pattern.specs.Trees.{pattern}
use Rattle.pg_literal.specs.Reaches.{HasNoAnchor}
use Rattle.pg_literal.proofs.reaches.reach.Given as goal

-- the trees so far have no anchor
abbrev pub invariant-loop-tree : goal.invariant-loop-tree
invariant-loop-tree g l = AllWithin (λ tree. HasNoAnchor (pattern tree)) l.trees 0 l.tree-index
