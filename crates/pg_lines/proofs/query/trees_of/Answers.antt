use Rattle.std.proofs.Common.{map}
use Rattle.pg_pattern.specs.Trees.{pattern}
use Rattle.pg_lines.proofs.PatternLemmas.{all_proper}
use Rattle.pg_lines.proofs.query.trees_of.Goals as goal

pub returns-in-Ok-clause-proper : goal.returns-in-Ok-clause-proper
returns-in-Ok-clause-proper g c =
    all_proper _ _ _ (map (pattern {A = g.row.A.Denot}) c.in-Ok.trees.items) c.in-Ok.ensures.spelled
