use Rattle.std.proofs.Common.{map}
use Rattle.pg_pattern.specs.Trees.{pattern}
use Rattle.pg_prefilter.proofs.NeedleRowLemmas.{row_known}
use Rattle.pg_prefilter.proofs.prefilter.row_of.Goals as goal

pub returns : goal.returns
returns g c =
    row_known c.of.result c.args.text.now (map pattern c.args.trees.now) c.bounds.result c.terminator.result
    c.requires.trees c.bounds.ensures c.terminator.ensures c.of.ensures.needed c.of.ensures.enough
