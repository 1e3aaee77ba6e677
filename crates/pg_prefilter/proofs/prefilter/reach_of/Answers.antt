use Rattle.std.proofs.Common.{map, ◌∙◌, sym}
use Rattle.pg_pattern.specs.Trees.{pattern}
use Rattle.pg_prefilter.proofs.NearLemmas.{reach_of_known}
use Rattle.pg_prefilter.proofs.prefilter.reach_of.Goals as goal

pub returns-in-Any : goal.returns-in-Any
returns-in-Any g c =
    reach_of_known c.args.text.now (map pattern c.args.trees.now) c.reach.result c.requires.trees
    (sym c.bounds.ensures ∙ c.in-Any.is) c.reach.ensures
