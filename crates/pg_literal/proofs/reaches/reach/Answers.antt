use Rattle.std.proofs.Common.{arith, map}
use Rattle.std.specs.List.{All}
use Rattle.std.proofs.lemmas.List.Elements.{All-map, AllWithin-more, at_read}
use Rattle.pg_pattern.specs.Trees.{pattern}
use Rattle.pg_pattern.specs.declared.tree.Tree.{Tree}
use Rattle.pg_literal.specs.Reaches.{HasNoAnchor}
use Rattle.pg_literal.proofs.ReachLemmas.{reach_of_free}
use Rattle.pg_literal.proofs.reaches.reach.Goals as goal

pub loop-tree-preserved : goal.loop-tree-preserved
loop-tree-preserved g c =
    let trees = c.args.trees.now in
    let i = c.loop-tree.tree-index in
    let Free : Tree g.row.A.Denot → Type 0 = λ tree. HasNoAnchor (pattern tree) in
    AllWithin-more Free trees 0 i c.loop-tree.invariant
    (at_read trees Free i c.tree-item.result c.loop-tree-test.true c.tree-item.is
    (c.has_anchor.ensures c.if-has_anchor.false))

pub returns : goal.returns
returns g c =
    let trees = c.args.trees.now in
    let Free : Tree g.row.A.Denot → Type 0 = λ tree. HasNoAnchor (pattern tree) in
    let all : All Free trees =
    λ k d below. c.loop-tree.invariant k d (omega arith) (omega (arith, below, c.loop-tree-test.false)) in
    reach_of_free (map pattern trees) (All-map HasNoAnchor pattern trees all) c.hit_reach.result c.hit_reach.ensures
