use Rattle.std.proofs.Common.{refl, rules}
use Rattle.pg_pattern.specs.declared.tree.Tree.{the_lemmas}
use Rattle.pg_pattern.proofs.PatternLemmas.{pattern-empty, pattern-cat, pattern-alt, pattern-rep}
use Rattle.pg_literal.proofs.KnownLemmas.{no_rounds, both_empty, first_empty, second_empty}
use Rattle.pg_literal.proofs.known.+matches_empty.Goals as goal

pub returns-in-Empty : goal.returns-in-Empty
returns-in-Empty g t c = λ yes. c.loop-tree.invariant.whole (rw (pattern-empty _ c.in-Empty.is) (λ line i. refl))

pub loop-tree-preserved-in-Cat-1 : goal.loop-tree-preserved-in-Cat-1
loop-tree-preserved-in-Cat-1 g t c =
    let second = rw c.deref.ensures at (c.matches_empty.ensures (search rules)) in
    record {
      below = search (rules, the_lemmas);
      whole = λ empty.
          let first = rw c.deref-tree.ensures at empty in
          c.loop-tree.invariant.whole (rw (pattern-cat _ _ _ c.in-Cat.is) (both_empty _ _ first second));
    }

pub returns-then-matches_empty : goal.returns-then-matches_empty
returns-then-matches_empty g t c = λ yes.
    let second = rw c.deref-in-Alt.ensures at (c.matches_empty-in-Alt.ensures (search rules)) in
    c.loop-tree.invariant.whole (rw (pattern-alt _ _ _ c.in-Alt.is) (second_empty _ _ second))

pub loop-tree-preserved : goal.loop-tree-preserved
loop-tree-preserved g t c = record {
  below = search (rules, the_lemmas);
  whole = λ empty.
      let first = rw c.deref-tree-in-Alt.ensures at empty in
      c.loop-tree.invariant.whole (rw (pattern-alt _ _ _ c.in-Alt.is) (first_empty _ _ first));
}

pub returns-in-Rep : goal.returns-in-Rep
returns-in-Rep g t c = λ yes.
    c.loop-tree.invariant.whole (rw (pattern-rep _ _ _ _ c.in-Rep.is) (no_rounds _ _ _ (search (rules, yes))))
