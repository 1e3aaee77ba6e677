use Rattle.std.proofs.Common.{inr, List, subst}
use Rattle.pg_pattern.specs.Trees.{pattern}
use Rattle.pg_pattern.specs.declared.bounds.Bounds.TheVariants.{Any}
use Rattle.pg_literal.specs.Added.{Adds}
use Rattle.pg_literal.specs.declared.literal.Literal.{Literal}
use Rattle.pg_literal.proofs.InnerLemmas.{needed_texts, needed_added}
use Rattle.pg_literal.proofs.inner.better_of.Goals as goal

pub returns-then-cost_of : goal.returns-then-cost_of
returns-then-cost_of g c =
    let p = pattern c.args.tree.now in
    let adds = c.in_ok-found.ensures.adds c.if-found.true in
    let Begun : List (Literal g.row.A.Denot) → Type 0 =
    λ old. Adds c.args.fold Any p old c.push_literals.new.literals.items in
    let own = subst Begun c.new-literals.ensures.items (rw c.single.ensures at adds) in
    inr (
      needed_texts c.args.fold p Any c.push_literals.new.literals.items c.plain_of-literals.result.items
          c.plain_of-literals.ensures.texts (needed_added c.args.fold p Any c.push_literals.new.literals.items own),
      c.plain_of-literals.ensures.plain,
    )
