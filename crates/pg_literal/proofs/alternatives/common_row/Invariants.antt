use Rattle.std.proofs.Common.{List}
use Rattle.std.specs.Prelude.{IfSome}
use Rattle.pg_bytes.specs.Sets.{Bytes}
use Rattle.pg_pattern.specs.Trees.{pattern}
use Rattle.pg_literal.specs.Fronts.{IsFrontRow, IsWider}
use Rattle.pg_literal.specs.Rows.{row_along}
use Rattle.pg_literal.proofs.alternatives.common_row.Given as goal

-- a row of what is left of the tree that is wider than the one so far is the whole tree's
abbrev pub invariant-loop-tree : goal.invariant-loop-tree
invariant-loop-tree g l = (whole : List Bytes) → IsFrontRow (pattern l.tree) whole
    → IfSome l.row (λ row. IsWider (row_along row.items) whole) → IsFrontRow (pattern l.fn.tree) whole
