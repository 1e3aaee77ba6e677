use Rattle.std.proofs.Common.{inl, inr, arith, rules, sym, subst, ◌<◌, length}
use Rattle.pg_pattern.specs.declared.tree.Tree.{the_lemmas}
use Rattle.pg_pattern.proofs.PatternLemmas.{pattern-cat, pattern-alt, pattern-rep}
use Rattle.pg_literal.specs.Inner.{AreInnerTexts}
use Rattle.pg_literal.proofs.InnerLemmas.{part_first, part_second, part_round, within_alt}
use Rattle.pg_literal.proofs.inner.+inner_of.Goals as goal

pub loop-tree-preserved-in-Cat-1 : goal.loop-tree-preserved-in-Cat-1
loop-tree-preserved-in-Cat-1 g t c =
    let fold = c.args.fold in
    let known = c.loop-tree.invariant in
    record {
      below = search (rules, the_lemmas);
      part = λ outer part.
          let whole = rw (pattern-cat _ _ _ c.in-Cat.is) at (known.part outer part) in
          rw c.deref-tree.ensures (part_first fold outer _ _ whole);
      best = λ outer part begun.
          let whole = rw (pattern-cat _ _ _ c.in-Cat.is) at (known.part outer part) in
          c.in_ok-best-in-Cat.ensures outer (rw c.deref.ensures (part_second fold outer _ _ whole))
          (known.best outer part begun);
    }

pub returns-in-Alt : goal.returns-in-Alt
returns-in-Alt g t c = λ outer part begun some.
    let known = c.loop-tree.invariant in
    elim c.in_ok-found-in-Alt.ensures [
      | inl same ↦
          subst (λ ls. AreInnerTexts c.args.fold outer ls.items) (sym same)
          (known.best outer part begun (subst (λ ls. 0 < length ls.items) same some))
      | inr is ↦
          let whole = rw (pattern-alt _ _ _ c.in-Alt.is) at (known.part outer part) in
          within_alt c.args.fold outer _ _ _ whole (rw (pattern-alt _ _ _ c.in-Alt.is) at is.0) is.1
    ]

pub loop-tree-preserved : goal.loop-tree-preserved
loop-tree-preserved g t c =
    let known = c.loop-tree.invariant in
    record {
      below = search (rules, the_lemmas);
      part = λ outer part.
          let whole = rw (pattern-rep _ _ _ _ c.in-Rep.is) at (known.part outer part) in
          rw c.deref-tree-in-Rep.ensures (part_round c.args.fold outer _ _ _ (omega arith) whole);
      best = known.best;
    }
