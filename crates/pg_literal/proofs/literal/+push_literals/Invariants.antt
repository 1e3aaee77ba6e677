use Rattle.std.proofs.Common.{◌≡◌, ◌≤◌, ℕ, List}
use Rattle.pg_grammar.specs.Grammar.{Spells}
use Rattle.pg_pattern.specs.Trees.{pattern}
use Rattle.pg_pattern.specs.declared.tree.Tree.{size-Tree}
use Rattle.pg_grammar.specs.declared.pattern_list.Kind.TheVariants.{Fixed}
use Rattle.pg_literal.specs.Added.{Adds}
use Rattle.pg_literal.specs.declared.literal.Literal.{Literal}
use Rattle.pg_literal.proofs.literal.+push_literals.Given as goal

abbrev pub decreases-push_literals : goal.decreases-push_literals
decreases-push_literals g l = goal.size-push_literals g l

abbrev pub invariant-loop-tree : goal.invariant-loop-tree
invariant-loop-tree g l = record {
  below : size-Tree _ l.tree ≤ size-Tree _ l.fn.tree;
  whole : (new : List (Literal _)) → Adds l.expansion.fold l.bounds (pattern l.tree) l.literals.items new
      → Adds l.expansion.fold l.bounds (pattern l.fn.tree) l.fn.literals.items new;
  fixed : (text : List ℕ) → Spells Fixed l.expansion.fold text (pattern l.fn.tree)
      → (pattern l.tree ≡ pattern l.fn.tree) × (l.literals.items ≡ l.fn.literals.items);
}
