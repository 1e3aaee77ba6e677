use Rattle.std.proofs.Common.{◌≡◌, ◌∙◌, ap, subst, sym}
use Rattle.pg_bytes.specs.ByteSets.{bytes}
use Rattle.pg_pattern.specs.Patterns.{Alt, Set}
use Rattle.pg_pattern.specs.Trees.{pattern}
use Rattle.pg_pattern.proofs.PatternLemmas.{pattern-alt}
use Rattle.pg_literal.proofs.SetLemmas.{Joins, joins_first, joins_last, joins_more}
use Rattle.pg_literal.proofs.sets.set_of.Goals as goal

pub loop-tree-init : goal.loop-tree-init
loop-tree-init g c =
    let whole = pattern c.args.tree.now in subst (Joins whole whole) (sym c.empty-found.ensures) (joins_first whole)

pub loop-tree-preserved : goal.loop-tree-preserved
loop-tree-preserved g c =
    let whole = pattern c.args.tree.now in
    let first = pattern c.in-Alt.first.value in
    let set = c.in_ok-only_set.field-0 in
    let last : pattern c.in-Alt.second.value ≡ Set (bytes set) =
    ap pattern (sym c.deref.ensures) ∙ c.in_ok-only_set.ensures in
    let tree : pattern c.loop-tree.tree.now ≡ Alt first (Set (bytes set)) =
    pattern-alt _ _ _ c.in-Alt.is ∙ ap (Alt first) last in
    let more = joins_more whole first c.loop-tree.found set c.union-found.result
    (subst (λ p. Joins whole p (bytes c.loop-tree.found)) tree c.loop-tree.invariant) c.union-found.ensures in
    subst (λ t. Joins whole (pattern t) (bytes c.union-found.result)) (sym c.deref-tree.ensures) more

pub returns : goal.returns
returns g c =
    let whole = pattern c.args.tree.now in
    joins_last whole c.loop-tree.found c.in_ok-only_set-2.field-0 c.union.result
    (subst (λ p. Joins whole p (bytes c.loop-tree.found)) c.in_ok-only_set-2.ensures c.loop-tree.invariant)
    c.union.ensures
