use Rattle.std.proofs.Common.{◌<◌, length, ◌∙◌, arith, ap}
use Rattle.std.proofs.lemmas.List.Elements.{AllWithin-more_set}
use Rattle.pg_literal.specs.Inner.{IsNeededOnly}
use Rattle.pg_literal.proofs.InnerLemmas.{texts_set}
use Rattle.pg_literal.proofs.inner.plain_of.Goals as goal

pub loop-literal-preserved : goal.loop-literal-preserved
loop-literal-preserved g c =
    let literals = c.loop-literal.literal-items in
    let below : c.loop-literal.literal-index < length literals =
    omega (arith, c.loop-literal.auto.literal-items, c.loop-literal-test.true) in
    let i = c.loop-literal.literal-index in
    let old = c.literal-item.result in
    let new = c.forget_flags.new.literal in
    let says = c.forget_flags.ensures in
    record {
      texts = texts_set literals i new old below (ap (λ text. text.items) says.text)
          ∙ c.loop-literal.invariant.texts;
      plain = AllWithin-more_set literals i new below IsNeededOnly c.loop-literal.invariant.plain says.plain;
    }
