use Rattle.std.proofs.Common.{inl, inr, rules}
use Rattle.pg_pattern.specs.declared.tree.Tree.{the_lemmas}
use Rattle.pg_pattern.proofs.PatternLemmas.{pattern-empty, pattern-set, pattern-begin, pattern-end}
use Rattle.pg_pattern.proofs.PatternLemmas.{pattern-cat, pattern-alt, pattern-rep}
use Rattle.pg_literal.specs.Rows.{row_along}
use Rattle.pg_literal.proofs.FrontLemmas.{extends_front}
use Rattle.pg_literal.proofs.KnownLemmas.{extends_empty, extends_as_set, extends_cat, extends_alt, extends_rep}
use Rattle.pg_literal.proofs.known.+with_tree.Goals as goal

pub returns-in-Empty : goal.returns-in-Empty
returns-in-Empty g t c = λ fold.
    c.loop-tree.invariant.whole fold _ (rw (pattern-empty _ c.in-Empty.is) (extends_empty fold c.loop-tree.known))

pub returns-in-Set : goal.returns-in-Set
returns-in-Set g t c = λ fold.
    c.loop-tree.invariant.whole fold _ (rw (pattern-set _ _ c.in-Set.is) (c.in_ok-known-in-Set.ensures fold))

pub returns-in-Begin : goal.returns-in-Begin
returns-in-Begin g t c = λ fold. elim c.in-Begin.is [
  | inl begin ↦ c.loop-tree.invariant.whole fold _ (rw (pattern-begin _ begin) (c.with_anchor.ensures.begin fold))
  | inr end ↦ c.loop-tree.invariant.whole fold _ (rw (pattern-end _ end) (c.with_anchor.ensures.end fold))
]

pub loop-tree-preserved-in-Cat-1 : goal.loop-tree-preserved-in-Cat-1
loop-tree-preserved-in-Cat-1 g t c =
    record {
      below = search (rules, the_lemmas);
      whole = λ fold whole outer.
          let second = rw c.deref.ensures at (c.in_ok-known-in-Cat.ensures fold) in
          let first = rw c.deref-tree.ensures at outer in
          c.loop-tree.invariant.whole fold whole
          (rw (pattern-cat _ _ _ c.in-Cat.is) (extends_cat fold _ _ _ _ whole second first));
    }

pub returns-in-Some : goal.returns-in-Some
returns-in-Some g t c = λ fold.
    let same = rw (pattern-alt _ _ _ c.in-Alt.is) at c.in-Some.ensures in
    c.loop-tree.invariant.whole fold _
    (rw (pattern-alt _ _ _ c.in-Alt.is) (extends_as_set fold _ _ _ _ _ same (c.in_ok-known-in-Alt.ensures fold)))

pub returns-in-Some-2 : goal.returns-in-Some-2
returns-in-Some-2 g t c = λ fold.
    let is = rw c.in-Some-2.is at c.in_ok-row-in-Alt.ensures in
    let row = rw (pattern-alt _ _ _ c.in-Alt.is) at is in
    let front = extends_front fold _ _ _ _ (row_along c.in-Some-2.row.items) row c.in_ok-known-in-Alt-2.ensures in
    c.loop-tree.invariant.whole fold _ (rw (pattern-alt _ _ _ c.in-Alt.is) front)

pub returns-in-Alt : goal.returns-in-Alt
returns-in-Alt g t c = λ fold.
    let empty = rw (pattern-alt _ _ _ c.in-Alt.is) at c.matches_empty-is_optional.ensures in
    let hidden = extends_alt fold _ _ c.matches_empty-is_optional.result _ _ c.hidden.ensures empty in
    c.loop-tree.invariant.whole fold _ (rw (pattern-alt _ _ _ c.in-Alt.is) hidden)

pub returns-then-least-eq0 : goal.returns-then-least-eq0
returns-then-least-eq0 g t c = λ fold.
    c.loop-tree.invariant.whole fold _
    (rw (pattern-rep _ _ _ _ c.in-Rep.is) (extends_rep fold _ _ _ _ _ (search rules)
    c.hidden-then-least-eq0.ensures))

pub loop-tree-preserved : goal.loop-tree-preserved
loop-tree-preserved g t c =
    record {
      below = search (rules, the_lemmas);
      whole = λ fold whole inner.
          let first = rw c.deref-tree-in-Rep.ensures at inner in
          let all = rw c.deref-in-Rep.ensures at (c.in_ok-known-in-Rep.ensures fold) in
          c.loop-tree.invariant.whole fold whole (rw (pattern-rep _ _ _ _ c.in-Rep.is) (all whole first));
    }
