use Rattle.std.proofs.Common.{◌≡◌, ◌∷◌, [], ap, map}
use Rattle.pg_pattern.specs.Trees.{pattern}
use Rattle.pg_literal.proofs.SuffixLemmas.{list_of_one, only_suffix}
use Rattle.pg_literal.proofs.suffix.LineSuffix.of.Goals as goal

pub returns-in-Any : goal.returns-in-Any
returns-in-Any g c =
    let tree = c.index-trees-0.result in
    let one : map pattern c.args.trees.now ≡ pattern tree ∷ [] =
    ap (map pattern) (list_of_one c.args.trees.now tree c.if-trees-ne1.false c.index-trees-0.is) in
    only_suffix c.tree_suffix.result (map pattern c.args.trees.now) (pattern tree) c.args.bounds one c.in-Any.is
    c.tree_suffix.ensures
