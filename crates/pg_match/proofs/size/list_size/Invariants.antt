use Rattle.std.proofs.Common.{◌≡◌, ◌+◌, ◌-◌, min, take, sum_by, map}
use Rattle.pg_pattern.specs.Trees.{pattern}
use Rattle.pg_match.specs.Sizes.{size_of}
use Rattle.pg_match.proofs.size.list_size.Given as goal

abbrev pub invariant-loop-i : goal.invariant-loop-i
invariant-loop-i g l = l.total ≡ min (sum_by size_of (take l.i (map pattern l.trees)) + (l.i - 1)) 65537
