use Rattle.pg_bytes.specs.ByteSets.{bytes}
use Rattle.pg_pattern.specs.Trees.{pattern}
use Rattle.pg_literal.proofs.SetLemmas.{Joins}
use Rattle.pg_literal.proofs.sets.set_of.Given as goal

-- the whole tree matches what is left of it does, or one byte of those found
abbrev pub invariant-loop-tree : goal.invariant-loop-tree
invariant-loop-tree g l = Joins (pattern l.fn.tree) (pattern l.tree) (bytes l.found)
