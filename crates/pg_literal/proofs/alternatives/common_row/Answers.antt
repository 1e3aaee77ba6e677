use Rattle.std.proofs.Common.{sym, subst}
use Rattle.pg_pattern.specs.Trees.{pattern}
use Rattle.pg_pattern.proofs.PatternLemmas.{pattern-alt}
use Rattle.pg_literal.specs.Fronts.{IsFrontRow}
use Rattle.pg_literal.specs.Rows.{row_along}
use Rattle.pg_literal.proofs.FrontLemmas.{if_some_both, row_alt, row_wider, wider_more, wider_still}
use Rattle.pg_literal.proofs.alternatives.common_row.Goals as goal

pub loop-tree-preserved : goal.loop-tree-preserved
loop-tree-preserved g c = λ whole is wider.
    let p = pattern c.in-Alt.first.value in
    let q = pattern c.in-Alt.second.value in
    let last = row_along c.in-Some.last.items in
    let wide = row_along c.in-Some-2.wide.items in
    let own = rw c.in-Some.is at c.in_ok-last.ensures in
    let wider_last = rw c.in-Some-2.is at c.in_ok-wide.ensures.other in
    let before = rw c.in-Some-2.is at c.in_ok-wide.ensures.row in
    let first = subst (λ t. IsFrontRow (pattern t) whole) c.deref-tree.ensures is in
    let second = row_wider q last whole (wider_more last wide whole wider_last wider)
    (subst (λ t. IsFrontRow (pattern t) last) c.deref.ensures own) in
    c.loop-tree.invariant whole
    (subst (λ t. IsFrontRow t whole) (sym (pattern-alt _ _ _ c.in-Alt.is)) (row_alt p q whole first second))
    (wider_still c.loop-tree.row wide whole before wider)

pub returns : goal.returns
returns g c =
    let own = rw c.in-Some-3.is at c.in_ok-left.ensures in
    if_some_both _ _ _ c.in_ok-found.found c.in_ok-found.ensures.row c.in_ok-found.ensures.other
    (λ row before wider. c.loop-tree.invariant (row_along row.items)
    (row_wider (pattern c.loop-tree.tree.now) (row_along c.in-Some-3.left.items) (row_along row.items) wider own)
    before)
