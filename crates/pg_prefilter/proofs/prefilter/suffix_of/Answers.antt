use Rattle.std.proofs.Common.{map}
use Rattle.pg_pattern.specs.Trees.{pattern}
use Rattle.pg_prefilter.proofs.SuffixLemmas.{suffix_known}
use Rattle.pg_prefilter.proofs.prefilter.suffix_of.Goals as goal

pub returns : goal.returns
returns g c =
    suffix_known c.of.result c.args.text.now (map pattern c.args.trees.now) c.bounds.result c.requires.trees
    c.bounds.ensures c.of.ensures
