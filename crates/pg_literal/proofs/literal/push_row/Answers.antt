use Rattle.std.proofs.Common.{List, ℕ, Vec, map, reverse, sym, ap, ◌∙◌, subst, refl, ◌≡◌, rules, arith}
use Rattle.pg_literal.specs.Rows.{row_of, AreProduct}
use Rattle.pg_pattern.specs.Strings.{items_of}
use Rattle.pg_literal.proofs.LiteralLemmas.{pushed_none, pushed_more, pushed_all}
use Rattle.pg_literal.proofs.literal.push_row.Goals as goal

pub loop-backwards-init : goal.loop-backwards-init
loop-backwards-init g c = pushed_none c.args.is_enough c.args.is_head c.args.literals.now.items

pub loop-backwards-preserved : goal.loop-backwards-preserved
loop-backwards-preserved g c =
    let copied : c.in_ok-text.text.items ≡ c.deref.result.now = search rules in
    pushed_more c.deref-backwards-items.result.now c.loop-backwards.backwards-index c.backwards-item.result
    c.loop-backwards-test.true c.backwards-item.is c.args.is_enough c.args.is_head c.args.literals.now.items
    c.loop-backwards.literals.items c.push.new.self.items
    (record { text = c.reverse.new.self; is_enough = c.args.is_enough; is_head = c.args.is_head })
    (c.reverse.ensures.items ∙ ap reverse (copied ∙ c.deref.ensures.value)) refl refl c.in_ok-push.ensures.items
    c.loop-backwards.invariant

pub returns : goal.returns
returns g c = λ added.
    let row = row_of c.args.row.now in
    let Product : List (Vec ℕ g.row.A.Denot) → Type 0 =
    λ texts. AreProduct c.args.fold row (map reverse (map items_of texts)) in
    let product = subst Product (sym c.deref-backwards-items.ensures.value)
    (rw c.in-Some.is at c.in_ok-texts.ensures) in
    pushed_all c.args.fold row c.deref-backwards-items.result.now c.loop-backwards.backwards-index (omega arith)
    c.args.is_enough c.args.is_head c.args.literals.now.items c.loop-backwards.literals.items product
    c.loop-backwards.invariant
