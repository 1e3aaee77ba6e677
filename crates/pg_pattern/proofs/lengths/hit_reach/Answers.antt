use Rattle.std.proofs.Common.{arith, get_or, map}
use Rattle.std.specs.List.{All, AllWithin}
use Rattle.std.proofs.lemmas.List.Elements.{All-map, AllWithin-more, at_read}
use Rattle.pg_pattern.specs.Trees.{pattern}
use Rattle.pg_pattern.specs.declared.tree.Tree.{Tree}
use Rattle.pg_pattern.specs.Lengths.{IsReachOf}
use Rattle.pg_pattern.proofs.LengthLemmas.{reaches_less, hits_end}
use Rattle.pg_pattern.proofs.lengths.hit_reach.Goals as goal

pub loop-tree-preserved : goal.loop-tree-preserved
loop-tree-preserved g c =
    let trees = c.args.trees.now in
    let bounds = c.args.bounds in
    let i = c.loop-tree.tree-index in
    let old = c.loop-tree.reach in
    let one = c.in_ok-reach_of.field-0 in
    let all = c.max-reach.result in
    let Reaches : Tree g.row.A.Denot → Type 0 = λ tree. IsReachOf bounds all (pattern tree) in
    let before : AllWithin Reaches trees 0 i =
    λ k d low below. reaches_less bounds (pattern (get_or trees k d)) old all (omega (arith, c.max-reach.ensures))
    (c.loop-tree.invariant k d low below) in
    let tree = c.tree-item.result in
    let own = reaches_less bounds (pattern tree) one all (omega (arith, c.max-reach.ensures)) c.in_ok-reach_of.ensures
    in
    AllWithin-more Reaches trees 0 i before (at_read trees Reaches i tree c.loop-tree-test.true c.tree-item.is own)

pub returns : goal.returns
returns g c =
    let trees = c.args.trees.now in
    let bounds = c.args.bounds in
    let reach = c.loop-tree.reach in
    let Reaches : Tree g.row.A.Denot → Type 0 = λ tree. IsReachOf bounds reach (pattern tree) in
    let all : All Reaches trees =
    λ k d below. c.loop-tree.invariant k d (omega arith) (omega (arith, below, c.loop-tree-test.false)) in
    hits_end (map pattern trees) bounds reach (All-map (IsReachOf bounds reach) pattern trees all)
