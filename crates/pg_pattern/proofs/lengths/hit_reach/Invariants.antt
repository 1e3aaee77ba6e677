use Rattle.std.specs.List.{AllWithin}
use Rattle.pg_pattern.specs.Trees.{pattern}
use Rattle.pg_pattern.specs.Lengths.{IsReachOf}
use Rattle.pg_pattern.proofs.lengths.hit_reach.Given as goal

-- the trees so far are within the reach so far
abbrev pub invariant-loop-tree : goal.invariant-loop-tree
invariant-loop-tree g l = AllWithin (λ tree. IsReachOf l.bounds l.reach (pattern tree)) l.trees 0 l.tree-index
