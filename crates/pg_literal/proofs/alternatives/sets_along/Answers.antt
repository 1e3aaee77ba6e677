use Rattle.std.proofs.Common.{◌≡◌, ◌++◌, ◌∷◌, ◌∙◌, ap, sym, subst}
use Rattle.pg_bytes.specs.ByteSets.{bytes}
use Rattle.pg_pattern.specs.Patterns.{Set}
use Rattle.pg_pattern.specs.Trees.{pattern}
use Rattle.pg_pattern.proofs.PatternLemmas.{pattern-cat}
use Rattle.pg_literal.specs.Fronts.{LeadsToRest}
use Rattle.pg_literal.specs.Rows.{row_of}
use Rattle.pg_literal.proofs.FrontLemmas.{along, leads_cat, leads_set, pushed}
use Rattle.pg_literal.proofs.alternatives.sets_along.Goals as goal

pub loop-tree-preserved : goal.loop-tree-preserved
loop-tree-preserved g c = λ rest whole leads.
    let set = c.in-Some.set in
    let before = row_of c.loop-tree.row.items ++ rest in
    let p = pattern c.in-Cat.first.value in
    let q = pattern c.in-Cat.second.value in
    let longer = pushed c.loop-tree.row.items c.push.new.self.items set c.in_ok-push.ensures.items in
    let last : q ≡ Set (bytes set) = ap pattern (sym c.deref.ensures) ∙ c.in-Some.ensures in
    let second = subst (λ t. LeadsToRest t before (bytes set ∷ before)) (sym last) (leads_set (bytes set) before) in
    let first = subst (λ t. LeadsToRest (pattern t) (bytes set ∷ before) whole) c.deref-tree.ensures
    (subst (λ r. LeadsToRest (pattern c.deref-tree.result.now) (r ++ rest) whole) longer leads) in
    c.loop-tree.invariant rest whole (subst (λ t. LeadsToRest t before whole) (sym (pattern-cat _ _ _ c.in-Cat.is))
    (leads_cat p q before (bytes set ∷ before) whole second first))

pub returns : goal.returns
returns g c = λ rest.
    let set = c.in-Some-only_set.first in
    let before = row_of c.loop-tree.row.items ++ rest in
    let turned = along c.push-2.new.self.items c.reverse.new.self.items c.reverse.ensures.items in
    let longer = pushed c.loop-tree.row.items c.push-2.new.self.items set c.in_ok-push-2.ensures.items in
    let first = subst (λ t. LeadsToRest t before (bytes set ∷ before)) (sym c.in-Some-only_set.ensures)
    (leads_set (bytes set) before) in
    subst (λ r. LeadsToRest (pattern c.args.tree.now) rest (r ++ rest)) (sym (turned ∙ longer))
    (c.loop-tree.invariant rest (bytes set ∷ before) first)
