use Rattle.std.proofs.Common.{◌+◌, ◌*◌, min, sym, ap, ◌∙◌, arith, rules}
use Rattle.pg_pattern.specs.Trees.{pattern}
use Rattle.pg_pattern.specs.Patterns.{Rep}
use Rattle.pg_pattern.specs.declared.tree.Tree.{the_lemmas}
use Rattle.pg_match.specs.Sizes.{size_of}
use Rattle.pg_pattern.proofs.PatternLemmas.{pattern-cat, pattern-alt, pattern-rep}
use Rattle.pg_match.proofs.SizeLemmas.{cut_part, cut_choice, cut_loop, cut_copies}
use Rattle.pg_match.proofs.size.+size.Goals as goal

pub loop-tree-preserved-in-Cat-1 : goal.loop-tree-preserved-in-Cat-1
loop-tree-preserved-in-Cat-1 g t c =
    let inv = c.loop-tree.invariant in
    let is = pattern-cat _ _ _ c.in-Cat.is in
    let proper = rw is at inv.proper in
    record {
      below = search (rules, the_lemmas);
      proper = rw c.deref-tree.ensures proper.0;
      few = inv.few;
      small = omega (arith, c.capped-total.ensures);
      same = rw (c.capped-total.ensures, c.size.ensures, c.deref.ensures, c.deref-tree.ensures)
          (inv.same ∙ ap (λ p. min (c.loop-tree.times * size_of p + c.loop-tree.total) 65537) is
          ∙ sym (cut_part 65537 _ _ _ _));
    }

pub loop-tree-preserved-in-Alt-1 : goal.loop-tree-preserved-in-Alt-1
loop-tree-preserved-in-Alt-1 g t c =
    let inv = c.loop-tree.invariant in
    let is = pattern-alt _ _ _ c.in-Alt.is in
    let proper = rw is at inv.proper in
    record {
      below = search (rules, the_lemmas);
      proper = rw c.deref-tree-in-Alt.ensures proper.0;
      few = inv.few;
      small = omega (arith, c.capped-total-in-Alt.ensures);
      same = rw (
        c.capped-total-in-Alt.ensures,
        c.size-in-Alt.ensures,
        c.deref-in-Alt.ensures,
        c.deref-tree-in-Alt.ensures,
      )
          (inv.same ∙ ap (λ p. min (c.loop-tree.times * size_of p + c.loop-tree.total) 65537) is
          ∙ sym (cut_choice 65537 _ _ _ _));
    }

pub loop-tree-preserved-in-None : goal.loop-tree-preserved-in-None
loop-tree-preserved-in-None g t c =
    let inv = c.loop-tree.invariant in
    let proper = rw (pattern-rep _ _ _ _ c.in-Rep.is) at inv.proper in
    let is = pattern-rep _ _ _ _ c.in-Rep.is ∙ ap (Rep (pattern c.in-Rep.inner.value) c.in-Rep.least) c.in-None.is in
    record {
      below = search (rules, the_lemmas);
      proper = rw c.deref-tree-in-None.ensures proper.0;
      few = omega (arith, c.capped-times.ensures);
      small = omega (arith, c.capped-total-in-None.ensures);
      same = rw (c.capped-times.ensures, c.capped-total-in-None.ensures, c.from.ensures, c.deref-tree-in-None.ensures)
          (inv.same ∙ ap (λ p. min (c.loop-tree.times * size_of p + c.loop-tree.total) 65537) is
          ∙ sym (cut_loop 65537 _ _ _ _));
    }

pub loop-tree-preserved : goal.loop-tree-preserved
loop-tree-preserved g t c =
    let inv = c.loop-tree.invariant in
    let proper = rw (pattern-rep _ _ _ _ c.in-Rep.is) at inv.proper in
    let is = pattern-rep _ _ _ _ c.in-Rep.is ∙ ap (Rep (pattern c.in-Rep.inner.value) c.in-Rep.least) c.in-Some.is in
    record {
      below = search (rules, the_lemmas);
      proper = rw c.deref-tree-in-Some.ensures proper.0;
      few = omega (arith, c.capped-times-in-Some.ensures);
      small = omega (arith, c.capped-total-in-Some.ensures);
      same = rw (
        c.capped-times-in-Some.ensures,
        c.capped-total-in-Some.ensures,
        c.from-in-Some.ensures,
        c.from-in-Some-2.ensures,
        c.deref-tree-in-Some.ensures,
      )
          (inv.same ∙ ap (λ p. min (c.loop-tree.times * size_of p + c.loop-tree.total) 65537) is
          ∙ sym (cut_copies 65537 _ _ _ _ _));
    }
