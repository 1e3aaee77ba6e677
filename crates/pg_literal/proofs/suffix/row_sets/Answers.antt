use Rattle.std.proofs.Common.{◌≡◌, ◌∙◌, ◌++◌, ◌∷◌, [], ap, subst, sym}
use Rattle.pg_bytes.specs.ByteSets.{bytes}
use Rattle.pg_pattern.specs.Patterns.{Cat, Set}
use Rattle.pg_pattern.specs.Trees.{pattern}
use Rattle.pg_pattern.proofs.PatternLemmas.{pattern-cat}
use Rattle.pg_literal.specs.Rows.{row_of}
use Rattle.pg_literal.specs.Suffixes.{IsExactRow}
use Rattle.pg_literal.proofs.SuffixLemmas.{Leads, leads_first, leads_more, leads_last}
use Rattle.pg_literal.proofs.suffix.row_sets.Goals as goal

pub loop-tree-init : goal.loop-tree-init
loop-tree-init g c =
    let whole = pattern c.args.tree.now in subst (Leads whole whole) (sym c.new-sets.ensures.items) (leads_first whole)

pub loop-tree-preserved : goal.loop-tree-preserved
loop-tree-preserved g c =
    let whole = pattern c.args.tree.now in
    let front = pattern c.in-Cat.front.value in
    let sets = c.loop-tree.sets.items in
    let set = c.in-Some.set in
    let last : pattern c.in-Cat.last.value ≡ Set (bytes set) = ap pattern (sym c.deref.ensures) ∙ c.in-Some.ensures in
    let tree : pattern c.loop-tree.tree.now ≡ Cat front (Set (bytes set)) =
    pattern-cat _ _ _ c.in-Cat.is ∙ ap (Cat front) last in
    let more = leads_more whole front sets set (subst (λ p. Leads whole p sets) tree c.loop-tree.invariant) in
    subst (Leads whole (pattern c.deref-tree.result.now)) (sym c.in_ok-push.ensures.items)
    (subst (λ t. Leads whole (pattern t) (sets ++ set ∷ [])) (sym c.deref-tree.ensures) more)

pub returns : goal.returns
returns g c =
    let whole = pattern c.args.tree.now in
    let sets = c.loop-tree.sets.items in
    subst (λ xs. IsExactRow whole (row_of xs)) (sym c.in_ok-push-2.ensures.items)
    (leads_last whole sets c.in-Some-only_set.set
    (subst (λ p. Leads whole p sets) c.in-Some-only_set.ensures c.loop-tree.invariant))
