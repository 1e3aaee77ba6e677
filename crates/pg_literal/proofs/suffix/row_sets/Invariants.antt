use Rattle.pg_pattern.specs.Trees.{pattern}
use Rattle.pg_literal.proofs.SuffixLemmas.{Leads}
use Rattle.pg_literal.proofs.suffix.row_sets.Given as goal

-- the sets so far stand behind what is left of the tree
abbrev pub invariant-loop-tree : goal.invariant-loop-tree
invariant-loop-tree g l = Leads (pattern l.fn.tree) (pattern l.tree) l.sets.items
