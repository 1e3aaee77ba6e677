use Rattle.std.proofs.Common.{List, ◌++◌}
use Rattle.pg_bytes.specs.Sets.{Bytes}
use Rattle.pg_pattern.specs.Trees.{pattern}
use Rattle.pg_literal.specs.Fronts.{LeadsToRest}
use Rattle.pg_literal.specs.Rows.{row_of}
use Rattle.pg_literal.proofs.alternatives.sets_along.Given as goal

-- what leads from what is left of the tree to the row so far leads from the whole tree to what is behind it
abbrev pub invariant-loop-tree : goal.invariant-loop-tree
invariant-loop-tree g l = (rest whole : List Bytes)
    → LeadsToRest (pattern l.tree) (row_of l.row.items ++ rest) whole → LeadsToRest (pattern l.fn.tree) rest whole
