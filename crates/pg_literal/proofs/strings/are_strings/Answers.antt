use Rattle.std.proofs.Common.{◌≡◌, true, refl, sym, subst, arith, ◌∙◌}
use Rattle.std.proofs.lemmas.Bool.{false≢true}
use Rattle.std.proofs.lemmas.List.Elements.{AllWithin-more, at_read}
use Rattle.pg_pattern.specs.Trees.{pattern}
use Rattle.pg_pattern.specs.declared.tree.Tree.{Tree}
use Rattle.pg_literal.specs.Strings.{IsOfString}
use Rattle.pg_literal.proofs.strings.are_strings.Goals as goal

pub loop-tree-preserved : goal.loop-tree-preserved
loop-tree-preserved g c =
    let trees = c.args.trees.now in
    let i = c.loop-tree.tree-index in
    let Of : Tree g.row.A.Denot → Type 0 = λ tree. IsOfString c.args.fold (pattern tree) in
    AllWithin-more Of trees 0 i c.loop-tree.invariant
    (at_read trees Of i c.tree-item.result c.loop-tree-test.true c.tree-item.is
    (c.is_string.ensures.0 (let found : c.is_string.result ≡ true = cc in found)))

pub returns : goal.returns
returns g c =
    (λ _ k d below. c.loop-tree.invariant k d (omega arith) (omega (arith, below, c.loop-tree-test.false)), λ _. refl)

pub returns-then-not-is_string : goal.returns-then-not-is_string
returns-then-not-is_string g c =
    let Of : Tree g.row.A.Denot → Type 0 = λ tree. IsOfString c.args.fold (pattern tree) in (
      λ no. absurd (false≢true no),
      λ all. absurd (false≢true (sym c.if-not-is_string.true ∙ c.is_string.ensures.1
          (subst Of (sym c.tree-item.is) (all c.loop-tree.tree-index c.tree-item.result c.loop-tree-test.true)))),
    )
