use Rattle.std.proofs.Common.{List, ℕ, [], ◌∷◌, ◌++◌, map, reverse, sym, ap, ◌∙◌, subst, arith}
use Rattle.pg_literal.specs.Rows.{AreProduct}
use Rattle.pg_pattern.specs.Strings.{items_of}
use Rattle.pg_literal.proofs.RowLemmas.{longer_texts, product_none, product_grows, product_all}
use Rattle.pg_literal.proofs.row.texts_of.Goals as goal

pub loop-set-init : goal.loop-set-init
loop-set-init g c =
    let P : List (List ℕ) → Type 0 = λ texts. AreProduct c.args.fold [] (map reverse texts) in
    let one = ap (map items_of)
    (c.in_ok-push.ensures.items ∙ ap (λ ts. ts ++ c.new.result ∷ []) c.new-texts.ensures.items)
    ∙ ap (λ t. t ∷ []) c.new.ensures.items in
    subst P (sym one) (product_none c.args.fold)

pub loop-set-preserved : goal.loop-set-preserved
loop-set-preserved g c =
    let are = rw c.in-Some.is at c.in_ok-choices.ensures in
    product_grows c.args.fold c.args.row.now c.loop-set.set-index _ c.loop-set-test.true c.in-Some.choices.items
    (map items_of c.loop-set.texts.items) (map items_of c.in_ok-texts.texts.items) are c.loop-set.invariant
    (c.in_ok-texts.ensures
    ∙ (ap (λ ts. longer_texts c.deref-in-loop-set.result.now (map items_of ts)) c.deref.ensures.value
    ∙ ap (λ choices. longer_texts choices (map items_of c.loop-set.texts.items)) c.deref-in-loop-set.ensures.value))

pub returns : goal.returns
returns g c =
    product_all c.args.fold c.args.row.now c.loop-set.set-index (map reverse (map items_of c.loop-set.texts.items))
    (omega arith) c.loop-set.invariant
