use Rattle.std.proofs.Common.{map}
use Rattle.pg_pattern.specs.Trees.{pattern}
use Rattle.pg_match.specs.Tables.{HasFirst}
use Rattle.pg_match.proofs.build.assemble.Given as goal

abbrev pub invariant-loop-i : goal.invariant-loop-i
invariant-loop-i g l = HasFirst l.states.items (map pattern l.trees) l.i l.start
