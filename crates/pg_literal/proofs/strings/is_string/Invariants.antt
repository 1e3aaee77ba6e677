use Rattle.std.proofs.Common.{◌≤◌}
use Rattle.pg_pattern.specs.Trees.{pattern}
use Rattle.pg_literal.proofs.StringLemmas.{IsLeft}
use Rattle.pg_literal.proofs.strings.is_string.Given as goal

abbrev pub invariant-loop-tree : goal.invariant-loop-tree
invariant-loop-tree g l = record {
  some : 1 ≤ l.room;
  most : l.room ≤ 4096;
  left : IsLeft l.fold (pattern l.fn.tree) (pattern l.tree) l.room;
}

abbrev pub decreases-loop-tree : goal.decreases-loop-tree
decreases-loop-tree g l = l.room
