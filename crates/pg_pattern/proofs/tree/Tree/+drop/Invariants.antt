use Rattle.std.proofs.Common.{◌≤◌}
use Rattle.pg_pattern.specs.declared.tree.Tree.{size-Tree}
use Rattle.pg_pattern.proofs.tree.Tree.+drop.Given as goal

abbrev pub invariant-loop-self : goal.invariant-loop-self
invariant-loop-self g l = size-Tree _ l.self ≤ size-Tree _ l.fn.self
