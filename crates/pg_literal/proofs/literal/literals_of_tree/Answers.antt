use Rattle.std.proofs.Common.{List, subst, arith, rules}
use Rattle.pg_pattern.specs.Trees.{pattern}
use Rattle.pg_literal.specs.Added.{Adds}
use Rattle.pg_literal.specs.declared.literal.Literal.{Literal}
use Rattle.pg_literal.proofs.InnerLemmas.{part_self, adds_within}
use Rattle.pg_literal.proofs.literal.literals_of_tree.Goals as goal

pub returns-then-not-cost_of-clause-adds : goal.returns-then-not-cost_of-clause-adds
returns-then-not-cost_of-clause-adds g c =
    let fold = c.args.expansion.fold in
    let p = pattern c.args.tree.now in
    let none = c.new.ensures.len in
    let within = c.in_ok-inner.ensures p (part_self fold p) (λ some. absurd (omega (arith, some, c.new.ensures.items)))
    (search rules) in
    adds_within fold p c.args.bounds c.in_ok-inner.inner.items within

pub returns-then-found-3-clause-adds : goal.returns-then-found-3-clause-adds
returns-then-found-3-clause-adds g c =
    let Begun : List (Literal g.row.A.Denot) → Type 0 =
    λ old. Adds c.args.expansion.fold c.args.bounds (pattern c.args.tree.now) old c.push_literals.new.literals.items in
    subst Begun c.new-own.ensures.items (c.in_ok-found.ensures.adds c.if-found-3.true)
