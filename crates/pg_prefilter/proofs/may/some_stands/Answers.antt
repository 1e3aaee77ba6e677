use Rattle.std.proofs.Common.{ℕ, List, ◌∙◌, subst, sym, arith}
use Rattle.std.proofs.lemmas.List.Elements.{AllWithin-more, AllWithin-upto, All-from_all_within, at_read}
use Rattle.memchr.specs.Find.{OccursAt}
use Rattle.pg_literal.specs.declared.literal.Literal.{Literal}
use Rattle.pg_prefilter.proofs.MayLemmas.{found_nowhere}
use Rattle.pg_prefilter.proofs.may.some_stands.Goals as goal

pub loop-literal-preserved : goal.loop-literal-preserved
loop-literal-preserved g c =
    let literals = c.args.literals.now in
    let searched = c.args.searched.now in
    let i = c.loop-literal.literal-index in
    let literal = c.literal-item.result in
    let Absent : Literal g.row.A.Denot → Type 0 =
    λ l. (place : ℕ) → OccursAt searched l.text.items place → ⊥ in
    let Nowhere : List ℕ → Type 0 = λ text. (place : ℕ) → OccursAt searched text place → ⊥ in
    let none = found_nowhere searched c.new.result c.find-in-loop-literal.result c.find-in-loop-literal.ensures
    (sym c.is_some.ensures ∙ c.if-is_some.false) in
    let absent : Absent literal = subst Nowhere (c.new.ensures ∙ c.deref.ensures.value) none in
    AllWithin-more Absent literals 0 i c.loop-literal.invariant
    (at_read literals Absent i literal c.loop-literal-test.true c.literal-item.is absent)

pub returns : goal.returns
returns g c = λ no.
    let literals = c.args.literals.now in
    let Absent : Literal g.row.A.Denot → Type 0 =
    λ l. (place : ℕ) → OccursAt c.args.searched.now l.text.items place → ⊥ in
    All-from_all_within Absent literals (AllWithin-upto Absent literals 0 c.loop-literal.literal-index _ (omega arith)
    c.loop-literal.invariant)
