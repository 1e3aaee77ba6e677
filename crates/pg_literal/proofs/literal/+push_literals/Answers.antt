use Rattle.std.proofs.Common.{sym, ◌∙◌, subst, rules}
use Rattle.pg_grammar.specs.Grammar.{Spells}
use Rattle.pg_pattern.specs.declared.tree.Tree.{the_lemmas}
use Rattle.pg_grammar.specs.declared.pattern_list.Kind.TheVariants.{Fixed}
use Rattle.pg_pattern.proofs.PatternLemmas.{pattern-alt}
use Rattle.pg_literal.proofs.KnownLemmas.{alt_unspelled}
use Rattle.pg_literal.proofs.LiteralLemmas.{adds_alt}
use Rattle.pg_literal.proofs.literal.+push_literals.Goals as goal

pub returns-then-not-found-clause-fixed : goal.returns-then-not-found-clause-fixed
returns-then-not-found-clause-fixed g t c = λ text spells any.
    let same = c.loop-tree.invariant.fixed text spells in
    let alt = sym same.0 ∙ pattern-alt _ _ _ c.in-Alt.is in
    absurd (alt_unspelled c.args.expansion.fold _ _ text (subst (Spells Fixed c.args.expansion.fold text) alt spells))

pub loop-tree-preserved : goal.loop-tree-preserved
loop-tree-preserved g t c =
    let second = rw c.deref.ensures at (c.in_ok-found.ensures.adds (search rules)) in
    record {
      below = search (rules, the_lemmas);
      whole = λ new rest.
          let first = rw c.deref-tree.ensures at rest in
          c.loop-tree.invariant.whole new
          (rw (pattern-alt _ _ _ c.in-Alt.is) (adds_alt c.args.expansion.fold c.args.bounds _ _ _ _ new second first));
      fixed = λ text spells.
          let same = c.loop-tree.invariant.fixed text spells in
          let alt = sym same.0 ∙ pattern-alt _ _ _ c.in-Alt.is in
          absurd (alt_unspelled c.args.expansion.fold _ _ text
          (subst (Spells Fixed c.args.expansion.fold text) alt spells));
    }

pub returns : goal.returns
returns g t c = record {
  adds = λ yes. c.loop-tree.invariant.whole _ (c.in_ok-found-2.ensures.adds yes);
  fixed = λ text spells any.
      let same = c.loop-tree.invariant.fixed text spells in
      c.in_ok-found-2.ensures.fixed text (subst (Spells Fixed c.args.expansion.fold text) (sym same.0) spells) any;
}
