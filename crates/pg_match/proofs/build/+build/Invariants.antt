use Rattle.std.proofs.Common.{◌≡◌, ◌+◌, ◌≤◌, length}
use Rattle.pg_pattern.specs.Patterns.{IsProper}
use Rattle.pg_pattern.specs.Trees.{pattern}
use Rattle.pg_pattern.specs.declared.tree.Tree.{size-Tree}
use Rattle.pg_match.specs.Sizes.{size_of}
use Rattle.pg_match.specs.Tables.{AddedCopies, AddedOptional}
use Rattle.pg_match.specs.Gaps.{HasGap}
use Rattle.pg_match.proofs.GapLemmas.{Completes}
use Rattle.pg_match.proofs.build.+build.Given as goal

abbrev pub invariant-add-loop-tree : goal.invariant-add-loop-tree
invariant-add-loop-tree g l = record {
  below : size-Tree _ l.tree ≤ size-Tree _ l.fn.tree;
  proper : IsProper (pattern l.tree);
  size : length l.states.items + size_of (pattern l.tree) ≡ length l.initial.states.items + size_of (pattern l.fn.tree);
  has : HasGap l.initial.states.items l.states.items l.gap;
  completes : Completes l.states.items l.gap (pattern l.tree) (pattern l.fn.tree) l.fn.next;
}

abbrev pub invariant-add_copies-loop-i : goal.invariant-add_copies-loop-i
invariant-add_copies-loop-i g l = AddedCopies l.initial.states.items l.states.items (pattern l.inner) l.i l.entry l.next

abbrev pub invariant-add_optional-loop-i : goal.invariant-add_optional-loop-i
invariant-add_optional-loop-i g l = AddedOptional l.initial.states.items l.states.items
    (pattern l.inner) l.i l.entry l.next
