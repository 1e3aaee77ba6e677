use Rattle.std.specs.List.{AllWithin}
use Rattle.pg_pattern.specs.Trees.{pattern}
use Rattle.pg_literal.specs.Strings.{IsOfString}
use Rattle.pg_literal.proofs.strings.are_strings.Given as goal

abbrev pub invariant-loop-tree : goal.invariant-loop-tree
invariant-loop-tree g l = AllWithin (λ tree. IsOfString l.fold (pattern tree)) l.trees 0 l.tree-index
